use Rattle.flush_model.proofs.Commits.{flushed_is_committed}
use Rattle.flush_model.proofs.flushed_is_committed.Goals as goal

pub returns : goal.returns
returns c = flushed_is_committed
