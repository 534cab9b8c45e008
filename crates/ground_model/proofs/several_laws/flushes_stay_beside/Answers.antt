use Rattle.ground_model.proofs.SeveralFacts.{flush_stays_beside, renewed_are_left, renewed_stay}
use Rattle.ground_model.proofs.several_laws.flushes_stay_beside.Goals as goal

pub returns-clause-beside : goal.returns-clause-beside
returns-clause-beside c = flush_stays_beside

pub returns-clause-done : goal.returns-clause-done
returns-clause-done c = renewed_stay

pub returns-clause-left : goal.returns-clause-left
returns-clause-left c = renewed_are_left
