use Rattle.service_model.proofs.Journals.{legal_rest}
use Rattle.service_model.proofs.laws.legal_rest.Goals as goal

pub returns : goal.returns
returns c = legal_rest
