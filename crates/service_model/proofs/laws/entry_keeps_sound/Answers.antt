use Rattle.service_model.proofs.Keeps.{entry_keeps}
use Rattle.service_model.proofs.laws.entry_keeps_sound.Goals as goal

pub returns : goal.returns
returns c = entry_keeps
