use Rattle.std.proofs.Common.{◌≡◌}
use Rattle.block_map.specs.States.{held_below}
use Rattle.block_map.proofs.block_map.first_held_from.Given as goal

abbrev pub invariant-search : goal.invariant-search
invariant-search l = held_below l.client l.states l.at ≡ held_below l.client l.states l.from
