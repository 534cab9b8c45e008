use Rattle.std.proofs.Common.{◌-◌, length}
use Rattle.block_map.proofs.Taking.{TakesBelow}
use Rattle.block_map.proofs.states.take_least.Given as goal

abbrev pub invariant-search : goal.invariant-search
invariant-search l = TakesBelow l.client l.n l.initial.states.items l.states.items l.at l.left

abbrev pub decreases-search : goal.decreases-search
decreases-search l = length l.states.items - l.at
