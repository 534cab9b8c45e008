use Rattle.recovery.proofs.Reopens.{reopening_finds_the_same}
use Rattle.recovery.proofs.reopening.reopening_law.Goals as goal

pub returns : goal.returns
returns g c = reopening_finds_the_same g.V.Drives
