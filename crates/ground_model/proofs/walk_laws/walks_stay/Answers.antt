use Rattle.ground_model.proofs.Ahead.{base_stays, merged_stays_own, walk_stays_own}
use Rattle.ground_model.proofs.walk_laws.walks_stay.Goals as goal

pub returns-clause-base : goal.returns-clause-base
returns-clause-base c = base_stays

pub returns-clause-merged : goal.returns-clause-merged
returns-clause-merged c = merged_stays_own

pub returns-clause-walk : goal.returns-clause-walk
returns-clause-walk c = walk_stays_own
