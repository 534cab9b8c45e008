use Rattle.ground_model.proofs.HeldStops.{held_write_stops}
use Rattle.ground_model.proofs.line_laws.held_write_stops.Goals as goal

pub returns : goal.returns
returns g c = λ told. held_write_stops g.B.Blocks (λ s n f always left. g.met.B.Blocks.settled_left s n f told always left)
