use Rattle.draft_model.proofs.Telling.{tells_fresh}
use Rattle.draft_model.proofs.laws.fresh_law.Goals as goal

pub returns : goal.returns
returns c = tells_fresh
