use Rattle.ground_model.proofs.FewMade.{few_are_made}
use Rattle.ground_model.proofs.SmallBounds.{bounds_are_small}
use Rattle.ground_model.proofs.bound_laws.bounds_are_small.Goals as goal

pub returns-clause-made : goal.returns-clause-made
returns-clause-made c = few_are_made

pub returns-clause-small : goal.returns-clause-small
returns-clause-small c = bounds_are_small
