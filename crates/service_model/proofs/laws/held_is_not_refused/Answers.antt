use Rattle.service_model.proofs.Deciding.{held_not_refused}
use Rattle.service_model.proofs.laws.held_is_not_refused.Goals as goal

pub returns : goal.returns
returns c = held_not_refused
