use Rattle.ground_model.proofs.SeveralTurns.{several_turn_stands}
use Rattle.ground_model.proofs.several_laws.several_turn_stands.Goals as goal

pub returns : goal.returns
returns g c = λ told. several_turn_stands g.B.Blocks (λ s n f always left. g.met.B.Blocks.settled_left s n f told always left)
