use Rattle.service_model.proofs.Taking.{commit_takes}
use Rattle.service_model.proofs.laws.commit_takes_need.Goals as goal

pub returns : goal.returns
returns c = commit_takes
