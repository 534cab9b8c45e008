use Rattle.draft_model.proofs.Flushing.{flushes}
use Rattle.draft_model.proofs.laws.flush_law.Goals as goal

pub returns : goal.returns
returns c = flushes
