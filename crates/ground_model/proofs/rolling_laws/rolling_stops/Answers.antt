use Rattle.ground_model.proofs.RollingStops.{clearing_stops, member_stops}
use Rattle.ground_model.proofs.rolling_laws.rolling_stops.Goals as goal

pub returns-clause-member : goal.returns-clause-member
returns-clause-member g c = λ told. member_stops g.B.Blocks (λ s n f always left. g.met.B.Blocks.settled_left s n f told always left)

pub returns-clause-clearing : goal.returns-clause-clearing
returns-clause-clearing g c = λ told. clearing_stops g.B.Blocks (λ s n f always left. g.met.B.Blocks.settled_left s n f told always left)
