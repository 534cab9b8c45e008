use Rattle.ground_model.proofs.OpeningSeveral.{bases_are_left, bases_begin, bases_stay, opening_is_left}
use Rattle.ground_model.proofs.opening_laws.bases_stay.Goals as goal

pub returns-clause-begin : goal.returns-clause-begin
returns-clause-begin c = bases_begin

pub returns-clause-stay : goal.returns-clause-stay
returns-clause-stay c = bases_stay

pub returns-clause-left : goal.returns-clause-left
returns-clause-left c = bases_are_left

pub returns-clause-line : goal.returns-clause-line
returns-clause-line c = opening_is_left
