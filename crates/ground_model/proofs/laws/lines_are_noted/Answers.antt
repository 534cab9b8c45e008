use Rattle.ground_model.proofs.LineKinds.{abandon_is_noted, begin_is_noted, refused_is_noted, step_is_noted, pick_is_noted}
use Rattle.ground_model.proofs.laws.lines_are_noted.Goals as goal

pub returns-clause-refused : goal.returns-clause-refused
returns-clause-refused c = refused_is_noted

pub returns-clause-begin : goal.returns-clause-begin
returns-clause-begin c = begin_is_noted

pub returns-clause-step : goal.returns-clause-step
returns-clause-step c = step_is_noted

pub returns-clause-pick : goal.returns-clause-pick
returns-clause-pick c = pick_is_noted

pub returns-clause-abandon : goal.returns-clause-abandon
returns-clause-abandon c = abandon_is_noted
