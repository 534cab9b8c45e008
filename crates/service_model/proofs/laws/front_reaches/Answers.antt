use Rattle.service_model.proofs.Journals.{reaches_front}
use Rattle.service_model.proofs.laws.front_reaches.Goals as goal

pub returns : goal.returns
returns c = reaches_front
