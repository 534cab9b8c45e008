use Rattle.ground.proofs.KeptTold.{kept_told}
use Rattle.ground.proofs.ground.GroundOver.kept.Goals as goal

pub returns-clause-kept : goal.returns-clause-kept
returns-clause-kept g c = kept_told _ _ _ c.args.object c.kept.result c.self.view_is c.self.invariant c.kept.ensures
