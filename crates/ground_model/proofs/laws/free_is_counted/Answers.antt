use Rattle.ground_model.proofs.FreeBlocks.{free_is_counted}
use Rattle.ground_model.proofs.laws.free_is_counted.Goals as goal

pub returns : goal.returns
returns c = free_is_counted
