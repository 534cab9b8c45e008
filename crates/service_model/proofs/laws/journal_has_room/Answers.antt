use Rattle.service_model.proofs.Keeping.{journal_room}
use Rattle.service_model.proofs.laws.journal_has_room.Goals as goal

pub returns : goal.returns
returns c = journal_room
