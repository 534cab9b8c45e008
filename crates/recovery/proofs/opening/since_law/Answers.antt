use Rattle.recovery.proofs.PairOpenings.{since_earlier}
use Rattle.recovery.proofs.opening.since_law.Goals as goal

pub returns : goal.returns
returns g c = since_earlier g.B.Blocks
