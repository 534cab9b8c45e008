use Rattle.ground_model.proofs.Steps.{held_write_leads}
use Rattle.ground_model.proofs.laws.held_write_leads.Goals as goal

pub returns : goal.returns
returns c = held_write_leads
