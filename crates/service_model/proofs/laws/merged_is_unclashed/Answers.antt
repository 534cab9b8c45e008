use Rattle.service_model.proofs.Gives.{merged_unclashed}
use Rattle.service_model.proofs.laws.merged_is_unclashed.Goals as goal

pub returns : goal.returns
returns c = merged_unclashed
