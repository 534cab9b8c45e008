use Rattle.ground_model.proofs.SeveralDecisions.{several_are_based, several_are_unworn, several_are_worn}
use Rattle.ground_model.proofs.deciding_laws.several_are_based.Goals as goal

pub returns-clause-last : goal.returns-clause-last
returns-clause-last c = several_are_based

pub returns-clause-unworn : goal.returns-clause-unworn
returns-clause-unworn c = several_are_unworn

pub returns-clause-worn : goal.returns-clause-worn
returns-clause-worn c = several_are_worn
