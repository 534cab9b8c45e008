use Rattle.ground_model.proofs.SeveralAnswers.{answered_top_stands}
use Rattle.ground_model.proofs.several_laws.answered_top_stands.Goals as goal

pub returns : goal.returns
returns g c = λ told. answered_top_stands g.B.Blocks (λ s n f always left. g.met.B.Blocks.settled_left s n f told always left)
