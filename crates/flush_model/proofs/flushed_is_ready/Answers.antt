use Rattle.flush_model.proofs.Ready.{flushed_is_ready, flushed_together}
use Rattle.flush_model.proofs.flushed_is_ready.Goals as goal

pub returns-clause-alone : goal.returns-clause-alone
returns-clause-alone c = flushed_is_ready

pub returns-clause-together : goal.returns-clause-together
returns-clause-together c = flushed_together
