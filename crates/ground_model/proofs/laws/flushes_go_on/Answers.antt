use Rattle.ground_model.proofs.Writing.{flush_begins, flush_goes_on}
use Rattle.ground_model.proofs.laws.flushes_go_on.Goals as goal

pub returns-clause-begins : goal.returns-clause-begins
returns-clause-begins c = flush_begins

pub returns-clause-on : goal.returns-clause-on
returns-clause-on c = flush_goes_on
