use Rattle.draft_model.proofs.Runs.{runs}
use Rattle.draft_model.proofs.laws.step_law.Goals as goal

pub returns : goal.returns
returns c = runs
