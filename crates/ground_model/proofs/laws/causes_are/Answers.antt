use Rattle.ground_model.proofs.Causes.{cause_of_abandon, cause_of_begin, cause_of_commit, cause_of_idle_step, cause_of_step}
use Rattle.ground_model.proofs.laws.causes_are.Goals as goal

pub returns-clause-begin : goal.returns-clause-begin
returns-clause-begin c = cause_of_begin

pub returns-clause-idle : goal.returns-clause-idle
returns-clause-idle c = cause_of_idle_step

pub returns-clause-step : goal.returns-clause-step
returns-clause-step c = cause_of_step

pub returns-clause-commit : goal.returns-clause-commit
returns-clause-commit c = cause_of_commit

pub returns-clause-abandon : goal.returns-clause-abandon
returns-clause-abandon c = cause_of_abandon
