use Rattle.flush_model.proofs.Several.{flushed_are_next}
use Rattle.flush_model.proofs.flushed_are_next.Goals as goal

pub returns : goal.returns
returns c = flushed_are_next
