use Rattle.joint_flush.proofs.Readying.{joint_ready}
use Rattle.joint_flush.proofs.laws.ready_law.Goals as goal

pub returns : goal.returns
returns c = joint_ready
