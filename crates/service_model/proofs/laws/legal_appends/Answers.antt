use Rattle.service_model.proofs.Journals.{legal_append}
use Rattle.service_model.proofs.laws.legal_appends.Goals as goal

pub returns : goal.returns
returns c = legal_append
