use Rattle.ground_model.proofs.Stopping.{read_stops, write_stops_run}
use Rattle.ground_model.proofs.laws.stops_recover.Goals as goal

pub returns-clause-read : goal.returns-clause-read
returns-clause-read g c = λ told. read_stops g.B.Blocks (λ s n f always left. g.met.B.Blocks.settled_left s n f told always left)

pub returns-clause-write : goal.returns-clause-write
returns-clause-write g c = λ told. write_stops_run g.B.Blocks (λ s n f always left. g.met.B.Blocks.settled_left s n f told always left)
