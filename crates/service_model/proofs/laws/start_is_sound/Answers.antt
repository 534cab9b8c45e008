use Rattle.service_model.proofs.Keeps.{start_sound}
use Rattle.service_model.proofs.laws.start_is_sound.Goals as goal

pub returns : goal.returns
returns c = start_sound
