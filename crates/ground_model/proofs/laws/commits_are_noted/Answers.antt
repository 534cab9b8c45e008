use Rattle.ground_model.proofs.CommitLines.{commit_is_answered, holding_is_noted, refusal_is_noted}
use Rattle.ground_model.proofs.laws.commits_are_noted.Goals as goal

pub returns-clause-held : goal.returns-clause-held
returns-clause-held c = holding_is_noted

pub returns-clause-refused : goal.returns-clause-refused
returns-clause-refused c = refusal_is_noted

pub returns-clause-answered : goal.returns-clause-answered
returns-clause-answered c = commit_is_answered
