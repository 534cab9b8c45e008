use Rattle.std.proofs.Common.{rules}
use Rattle.ground.proofs.ground.GroundOver.journal.Goals as goal

pub returns : goal.returns
returns g c = search rules
