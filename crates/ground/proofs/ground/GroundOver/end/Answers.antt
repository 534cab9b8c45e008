use Rattle.ground.proofs.Promised.{promised}
use Rattle.ground.proofs.ground.GroundOver.end.Goals as goal

pub returns-clause-promise : goal.returns-clause-promise
returns-clause-promise g c = promised _ _ _ c.self.view_is c.self.invariant
