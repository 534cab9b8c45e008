use Rattle.draft_model.proofs.Keeping.{stands_still}
use Rattle.draft_model.proofs.laws.keep_law.Goals as goal

pub returns : goal.returns
returns c = stands_still
