use Rattle.store_check.proofs.Counting.{places_are_counted}
use Rattle.store_check.proofs.counts.places_are_counted.Goals as goal

pub returns : goal.returns
returns c = places_are_counted
