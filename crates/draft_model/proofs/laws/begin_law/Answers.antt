use Rattle.draft_model.proofs.Feeding.{begins}
use Rattle.draft_model.proofs.laws.begin_law.Goals as goal

pub returns : goal.returns
returns c = begins
