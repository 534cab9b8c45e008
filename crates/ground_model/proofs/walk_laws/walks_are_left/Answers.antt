use Rattle.ground_model.proofs.Ahead.{base_is_left, walk_is_left}
use Rattle.ground_model.proofs.walk_laws.walks_are_left.Goals as goal

pub returns-clause-base : goal.returns-clause-base
returns-clause-base c = base_is_left

pub returns-clause-walk : goal.returns-clause-walk
returns-clause-walk c = walk_is_left
