use Rattle.joint_flush.proofs.Staying.{joint_stays}
use Rattle.joint_flush.proofs.laws.stays_law.Goals as goal

pub returns : goal.returns
returns c = joint_stays
