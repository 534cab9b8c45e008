use Rattle.ground_model.proofs.Maps.{end_is_noted}
use Rattle.ground_model.proofs.laws.end_is_noted.Goals as goal

pub returns : goal.returns
returns c = end_is_noted
