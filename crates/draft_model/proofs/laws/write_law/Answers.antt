use Rattle.draft_model.proofs.Telling.{tells_writes}
use Rattle.draft_model.proofs.laws.write_law.Goals as goal

pub returns : goal.returns
returns c = tells_writes
