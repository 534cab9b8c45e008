use Rattle.service_model.proofs.Keeping.{start_room}
use Rattle.service_model.proofs.laws.start_has_room.Goals as goal

pub returns : goal.returns
returns c = start_room
