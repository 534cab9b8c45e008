use Rattle.ground_model.proofs.Drafting.{merge_begins, merge_goes_on}
use Rattle.ground_model.proofs.laws.merges_go_on.Goals as goal

pub returns-clause-begins : goal.returns-clause-begins
returns-clause-begins c = merge_begins

pub returns-clause-on : goal.returns-clause-on
returns-clause-on c = merge_goes_on
