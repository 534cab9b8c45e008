use Rattle.ground_model.proofs.Maps.{giving_is_fixed, taking_is_fixed}
use Rattle.ground_model.proofs.laws.maps_are_fixed.Goals as goal

pub returns-clause-taking : goal.returns-clause-taking
returns-clause-taking c = taking_is_fixed

pub returns-clause-giving : goal.returns-clause-giving
returns-clause-giving c = giving_is_fixed
