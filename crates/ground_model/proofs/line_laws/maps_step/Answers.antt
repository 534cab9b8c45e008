use Rattle.ground_model.proofs.LineTurns.{giving_is_step, holding_takes, refusal_gives_back, taking_is_step}
use Rattle.ground_model.proofs.line_laws.maps_step.Goals as goal

pub returns-clause-taking : goal.returns-clause-taking
returns-clause-taking c = taking_is_step

pub returns-clause-giving : goal.returns-clause-giving
returns-clause-giving c = giving_is_step

pub returns-clause-held : goal.returns-clause-held
returns-clause-held c = holding_takes

pub returns-clause-refused : goal.returns-clause-refused
returns-clause-refused c = refusal_gives_back
