use Rattle.ground_model.proofs.HeldStops.{stands_stops}
use Rattle.ground_model.proofs.line_laws.stands_stops.Goals as goal

pub returns : goal.returns
returns g c = stands_stops g.B.Blocks
