use Rattle.service_model.proofs.Keeps.{journal_sound}
use Rattle.service_model.proofs.laws.journal_is_sound.Goals as goal

pub returns : goal.returns
returns c = journal_sound
