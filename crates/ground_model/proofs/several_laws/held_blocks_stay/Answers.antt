use Rattle.ground_model.proofs.SeveralFacts.{held_from_stays, held_stays, left_holds_alike}
use Rattle.ground_model.proofs.several_laws.held_blocks_stay.Goals as goal

pub returns-clause-left : goal.returns-clause-left
returns-clause-left c = left_holds_alike

pub returns-clause-one : goal.returns-clause-one
returns-clause-one c = held_stays

pub returns-clause-all : goal.returns-clause-all
returns-clause-all c = held_from_stays
