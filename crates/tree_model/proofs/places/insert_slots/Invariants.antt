use Rattle.std.proofs.Common.{◌≡◌, map}
use Rattle.tree_model.specs.Trees.{numbers_below}
use Rattle.tree_model.specs.Accesses.{slot_of}
use Rattle.tree_model.specs.Gathered.{with_places}
use Rattle.tree_model.proofs.places.insert_slots.Given as goal

abbrev pub invariant-loop-slot : goal.invariant-loop-slot
invariant-loop-slot l = l.places.items ≡ with_places l.initial.places.items (map (λ s. slot_of (l.at, s)) (numbers_below l.slot))
