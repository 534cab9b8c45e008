use Rattle.ground_model.proofs.OpeningSeveral.{super_is_answered, super_is_noted}
use Rattle.ground_model.proofs.opening_laws.super_is_noted.Goals as goal

pub returns-clause-begins : goal.returns-clause-begins
returns-clause-begins c = super_is_noted

pub returns-clause-answered : goal.returns-clause-answered
returns-clause-answered c = super_is_answered
