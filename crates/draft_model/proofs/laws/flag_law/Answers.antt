use Rattle.draft_model.proofs.Telling.{tells_flags}
use Rattle.draft_model.proofs.laws.flag_law.Goals as goal

pub returns : goal.returns
returns c = tells_flags
