use Rattle.ground_model.proofs.SeveralDecisions.{may_commit_several_is, refusable_gives_back, refusable_is_noted}
use Rattle.ground_model.proofs.deciding_laws.several_are_decided.Goals as goal

pub returns-clause-refused : goal.returns-clause-refused
returns-clause-refused c = refusable_is_noted

pub returns-clause-given : goal.returns-clause-given
returns-clause-given c = refusable_gives_back

pub returns-clause-may : goal.returns-clause-may
returns-clause-may c = may_commit_several_is
