use Rattle.std.proofs.Common.{◌≡◌, take}
use Rattle.page_merge.proofs.same.is_same_slots.Given as goal

abbrev pub invariant-loop-slot : goal.invariant-loop-slot
invariant-loop-slot l = take l.slot l.a ≡ take l.slot l.b
