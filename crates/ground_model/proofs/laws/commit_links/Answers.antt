use Rattle.ground_model.proofs.Committing.{commit_links}
use Rattle.ground_model.proofs.laws.commit_links.Goals as goal

pub returns : goal.returns
returns c = commit_links
