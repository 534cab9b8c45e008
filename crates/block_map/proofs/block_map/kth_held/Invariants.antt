use Rattle.std.proofs.Common.{◌≡◌, ◌≤◌}
use Rattle.block_map.specs.States.{held_below}
use Rattle.block_map.proofs.block_map.kth_held.Given as goal

abbrev pub invariant-search : goal.invariant-search
invariant-search l = (l.before ≡ held_below l.client l.states l.at) × (l.before ≤ l.k)
