use Rattle.ground_model.proofs.Steps.{link_leads}
use Rattle.ground_model.proofs.laws.link_leads.Goals as goal

pub returns : goal.returns
returns c = link_leads
