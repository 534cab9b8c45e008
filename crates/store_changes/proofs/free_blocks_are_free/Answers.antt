use Rattle.store_changes.proofs.Keeping.{free_blocks_are_free}
use Rattle.store_changes.proofs.free_blocks_are_free.Goals as goal

pub returns : goal.returns
returns c = free_blocks_are_free
