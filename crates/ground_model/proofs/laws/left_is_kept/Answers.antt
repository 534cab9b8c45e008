use Rattle.ground_model.proofs.Steps.{leaves_go_on, left_is_kept}
use Rattle.ground_model.proofs.laws.left_is_kept.Goals as goal

pub returns-clause-kept : goal.returns-clause-kept
returns-clause-kept c = left_is_kept

pub returns-clause-on : goal.returns-clause-on
returns-clause-on c = leaves_go_on
