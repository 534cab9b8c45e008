use Rattle.service_model.proofs.Journals.{legal_front}
use Rattle.service_model.proofs.laws.legal_front.Goals as goal

pub returns : goal.returns
returns c = legal_front
