use Rattle.ground_model.proofs.RollingTests.{members_are_tested}
use Rattle.ground_model.proofs.RollingTops.{tops_are_cleared}
use Rattle.ground_model.proofs.rolling_laws.rolls_come_to.Goals as goal

pub returns-clause-set : goal.returns-clause-set
returns-clause-set g c = λ told.
    members_are_tested g.B.Blocks told
    (λ s n body low holds. record { size = (g.met.B.Blocks.whole s n body told low holds).0; fits = g.met.B.Blocks.bytes s n body told holds })

pub returns-clause-cleared : goal.returns-clause-cleared
returns-clause-cleared g c = λ told.
    tops_are_cleared g.B.Blocks told
    (λ s n body low holds. record { size = (g.met.B.Blocks.whole s n body told low holds).0; fits = g.met.B.Blocks.bytes s n body told holds })
