use Rattle.ground_model.proofs.AnsweredLinks.{answered_link_stands}
use Rattle.ground_model.proofs.laws.answered_link_stands.Goals as goal

pub returns : goal.returns
returns g c = λ told. answered_link_stands g.B.Blocks (λ s n f always left. g.met.B.Blocks.settled_left s n f told always left)
