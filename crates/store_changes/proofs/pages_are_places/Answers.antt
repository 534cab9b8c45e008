use Rattle.store_changes.proofs.InPlaces.{pages_are_places}
use Rattle.store_changes.proofs.pages_are_places.Goals as goal

pub returns : goal.returns
returns c = pages_are_places
