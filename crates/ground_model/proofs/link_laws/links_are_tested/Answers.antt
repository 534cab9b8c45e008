use Rattle.ground_model.proofs.Testing.{merged_is_written, set_rewrites}
use Rattle.ground_model.proofs.link_laws.links_are_tested.Goals as goal

pub returns-clause-came : goal.returns-clause-came
returns-clause-came g c = λ told.
    set_rewrites g.B.Blocks told
    (λ s n body low holds. record { size = (g.met.B.Blocks.whole s n body told low holds).0; fits = g.met.B.Blocks.bytes s n body told holds })

pub returns-clause-written : goal.returns-clause-written
returns-clause-written g c = merged_is_written
