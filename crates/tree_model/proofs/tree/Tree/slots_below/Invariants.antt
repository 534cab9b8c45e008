use Rattle.std.proofs.Common.{◌≡◌}
use Rattle.tree_model.specs.Trees.{child_bits, numbers_below}
use Rattle.tree_model.proofs.tree.Tree.slots_below.Given as goal

abbrev pub invariant-loop-slot : goal.invariant-loop-slot
invariant-loop-slot l = l.bits ≡ child_bits l.self l.at (numbers_below l.slot)
