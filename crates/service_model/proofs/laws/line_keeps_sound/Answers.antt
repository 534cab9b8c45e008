use Rattle.service_model.proofs.Keeps.{line_keeps}
use Rattle.service_model.proofs.laws.line_keeps_sound.Goals as goal

pub returns : goal.returns
returns c = line_keeps
