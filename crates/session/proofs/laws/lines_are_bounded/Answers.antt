use Rattle.session.proofs.LineBounds.{rest_is_between, turns_are_within, update_is_small}
use Rattle.session.proofs.laws.lines_are_bounded.Goals as goal

pub returns-clause-within : goal.returns-clause-within
returns-clause-within c = turns_are_within

pub returns-clause-between : goal.returns-clause-between
returns-clause-between c = rest_is_between

pub returns-clause-small : goal.returns-clause-small
returns-clause-small c = update_is_small
