use Rattle.service_model.proofs.Following.{commit_alike}
use Rattle.service_model.proofs.laws.commit_does_alike.Goals as goal

pub returns : goal.returns
returns c = commit_alike
