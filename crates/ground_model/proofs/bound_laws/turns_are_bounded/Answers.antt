use Rattle.ground_model.proofs.Bounded.{turns_are_left, turns_fit, turns_grow, turns_of_more, walk_is_within}
use Rattle.ground_model.proofs.bound_laws.turns_are_bounded.Goals as goal

pub returns-clause-grow : goal.returns-clause-grow
returns-clause-grow c = turns_grow

pub returns-clause-more : goal.returns-clause-more
returns-clause-more c = turns_of_more

pub returns-clause-left : goal.returns-clause-left
returns-clause-left c = turns_are_left

pub returns-clause-walk : goal.returns-clause-walk
returns-clause-walk c = walk_is_within

pub returns-clause-fit : goal.returns-clause-fit
returns-clause-fit c = turns_fit
