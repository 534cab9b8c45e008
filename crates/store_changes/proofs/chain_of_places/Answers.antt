use Rattle.store_changes.proofs.Counting.{chain_of_places}
use Rattle.store_changes.proofs.chain_of_places.Goals as goal

pub returns : goal.returns
returns c = chain_of_places
