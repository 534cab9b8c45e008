use Rattle.ground_model.proofs.SeveralDecisions.{serials_are_at, serials_of_empty, serials_of_several}
use Rattle.ground_model.proofs.deciding_laws.several_are_answered.Goals as goal

pub returns-clause-written : goal.returns-clause-written
returns-clause-written c = serials_of_several

pub returns-clause-empty : goal.returns-clause-empty
returns-clause-empty c = serials_of_empty

pub returns-clause-at : goal.returns-clause-at
returns-clause-at c = serials_are_at
