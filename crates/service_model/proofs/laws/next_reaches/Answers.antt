use Rattle.service_model.proofs.Journals.{reaches_next}
use Rattle.service_model.proofs.laws.next_reaches.Goals as goal

pub returns : goal.returns
returns c = reaches_next
