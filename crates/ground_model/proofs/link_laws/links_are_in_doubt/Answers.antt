use Rattle.ground_model.proofs.Testing.{link_stops}
use Rattle.ground_model.proofs.link_laws.links_are_in_doubt.Goals as goal

pub returns : goal.returns
returns g c = λ told. link_stops g.B.Blocks (λ s n f always left. g.met.B.Blocks.settled_left s n f told always left)
