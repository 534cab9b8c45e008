use Rattle.ground_model.proofs.Fitting.{opened_is_fitting}
use Rattle.ground_model.proofs.laws.opened_is_fitting.Goals as goal

pub returns : goal.returns
returns c = opened_is_fitting
