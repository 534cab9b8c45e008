use Rattle.store_changes.proofs.Destroying.{destroying_removes}
use Rattle.store_changes.proofs.destroying_removes.Goals as goal

pub returns : goal.returns
returns c = destroying_removes
