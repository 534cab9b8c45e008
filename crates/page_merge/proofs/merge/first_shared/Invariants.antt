use Rattle.std.proofs.Common.{◌≡◌, ℕ, ◌<◌, ◌&&◌, false}
use Rattle.page_places.specs.Places.{has_bit}
use Rattle.page_merge.proofs.merge.first_shared.Given as goal

abbrev pub invariant-loop-slot : goal.invariant-loop-slot
invariant-loop-slot l = (k : ℕ) → k < l.slot → (has_bit l.a k && has_bit l.b k) ≡ false
