use Rattle.ground_model.proofs.SeveralTurns.{several_are_tested}
use Rattle.ground_model.proofs.several_laws.several_are_tested.Goals as goal

pub returns : goal.returns
returns g c = λ told.
    several_are_tested g.B.Blocks told
    (λ s n body low holds. record { size = (g.met.B.Blocks.whole s n body told low holds).0; fits = g.met.B.Blocks.bytes s n body told holds })
