use Rattle.playing.proofs.Telling.{told_ends}
use Rattle.playing.proofs.files.ends_tell.Goals as goal

pub returns : goal.returns
returns c = told_ends
