use Rattle.ground_model.proofs.LineTurns.{plain_sets_none, uncommitted_sets_none}
use Rattle.ground_model.proofs.line_laws.no_links_are_set.Goals as goal

pub returns-clause-plain : goal.returns-clause-plain
returns-clause-plain c = plain_sets_none

pub returns-clause-uncommitted : goal.returns-clause-uncommitted
returns-clause-uncommitted c = uncommitted_sets_none
