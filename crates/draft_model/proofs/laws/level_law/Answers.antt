use Rattle.draft_model.proofs.Keeping.{wanted_level}
use Rattle.draft_model.proofs.laws.level_law.Goals as goal

pub returns : goal.returns
returns c = wanted_level
