use Rattle.ground_model.proofs.SeveralTurns.{several_stop}
use Rattle.ground_model.proofs.several_laws.several_are_in_doubt.Goals as goal

pub returns : goal.returns
returns g c = λ told. several_stop g.B.Blocks (λ s n f always left. g.met.B.Blocks.settled_left s n f told always left)
