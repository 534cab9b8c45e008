use Rattle.service_model.proofs.Journals.{client_stays}
use Rattle.service_model.proofs.laws.others_stay.Goals as goal

pub returns : goal.returns
returns c = client_stays
