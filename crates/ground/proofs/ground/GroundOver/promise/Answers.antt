use Rattle.ground.proofs.Promised.{promised}
use Rattle.ground.proofs.ground.GroundOver.promise.Goals as goal

pub returns : goal.returns
returns g c = promised _ _ _ c.self.view_is c.self.invariant
