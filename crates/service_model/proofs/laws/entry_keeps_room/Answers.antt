use Rattle.service_model.proofs.Keeping.{entry_room}
use Rattle.service_model.proofs.laws.entry_keeps_room.Goals as goal

pub returns : goal.returns
returns c = entry_room
