use Rattle.ground_model.proofs.Opened.{opened_begins}
use Rattle.ground_model.proofs.laws.opened_begins.Goals as goal

pub returns : goal.returns
returns g c = opened_begins g.B.Blocks
