use Rattle.ground_model.proofs.Ahead.{ahead_in, ahead_of, one_base}
use Rattle.ground_model.proofs.walk_laws.versions_are_ahead.Goals as goal

pub returns-clause-one : goal.returns-clause-one
returns-clause-one c = one_base

pub returns-clause-some : goal.returns-clause-some
returns-clause-some c = ahead_in

pub returns-clause-of : goal.returns-clause-of
returns-clause-of c = ahead_of
