use Rattle.joint_flush.proofs.Staying.{ready_stays}
use Rattle.joint_flush.proofs.laws.ready_stays_law.Goals as goal

pub returns : goal.returns
returns c = ready_stays
