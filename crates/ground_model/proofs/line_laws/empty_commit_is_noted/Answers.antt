use Rattle.ground_model.proofs.CommitFacts.{empty_commit_is_noted}
use Rattle.ground_model.proofs.line_laws.empty_commit_is_noted.Goals as goal

pub returns : goal.returns
returns c = empty_commit_is_noted
