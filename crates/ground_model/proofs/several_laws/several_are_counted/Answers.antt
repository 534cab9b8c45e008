use Rattle.ground_model.proofs.SeveralFacts.{counts_go_on, flags_are_told, numbers_go_on}
use Rattle.ground_model.proofs.several_laws.several_are_counted.Goals as goal

pub returns-clause-told : goal.returns-clause-told
returns-clause-told c = flags_are_told

pub returns-clause-numbers : goal.returns-clause-numbers
returns-clause-numbers c = numbers_go_on

pub returns-clause-counts : goal.returns-clause-counts
returns-clause-counts c = counts_go_on
