use Rattle.service_model.proofs.Rooms.{free_rest}
use Rattle.service_model.proofs.laws.free_is_the_rest.Goals as goal

pub returns : goal.returns
returns c = free_rest
