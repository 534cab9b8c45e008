use Rattle.joint_walk.proofs.Flushed.{later}
use Rattle.joint_walk.proofs.laws.later_law.Goals as goal

pub returns : goal.returns
returns c = later
