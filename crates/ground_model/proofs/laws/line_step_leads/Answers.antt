use Rattle.ground_model.proofs.Steps.{line_step_leads}
use Rattle.ground_model.proofs.laws.line_step_leads.Goals as goal

pub returns : goal.returns
returns c = line_step_leads
