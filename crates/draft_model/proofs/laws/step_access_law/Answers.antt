use Rattle.draft_model.proofs.Accessing.{step_accessed}
use Rattle.draft_model.proofs.laws.step_access_law.Goals as goal

pub returns : goal.returns
returns c = step_accessed
