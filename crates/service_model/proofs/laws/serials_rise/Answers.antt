use Rattle.service_model.proofs.Gives.{serials}
use Rattle.service_model.proofs.laws.serials_rise.Goals as goal

pub returns : goal.returns
returns c = serials
