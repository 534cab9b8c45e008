use Rattle.ground_model.proofs.CommitFacts.{may_commit_is, one_is_refused, refusal_is_lawful}
use Rattle.ground_model.proofs.line_laws.commits_are_decided.Goals as goal

pub returns-clause-lawful : goal.returns-clause-lawful
returns-clause-lawful c = refusal_is_lawful

pub returns-clause-refused : goal.returns-clause-refused
returns-clause-refused c = one_is_refused

pub returns-clause-may : goal.returns-clause-may
returns-clause-may c = may_commit_is
