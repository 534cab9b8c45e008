-- After a write on both halves, each of which was synced last, nothing is pending.
use Rattle.std.proofs.Common.{◌≡◌, ℕ, List, sym, ◌∙◌, arith}
use Rattle.drives.specs.declared.device.Half.{Half}
use Rattle.drives.specs.declared.device.Half.TheVariants.{A, B}
use Rattle.drives.specs.Crash.{LeavesOnly}
use Rattle.drives.specs.Changes.{Changes, Halves, HalvesLeft, IsAtRest, OnHalves}
use Rattle.pair_store.specs.Stages.{At, SameElsewhere}

module _ {D : Type 0} (seen : D → Half → List ℕ) (moment : D → ℕ) (left : D → Half → ℕ → List ℕ → Type 0) (n : ℕ) (mid new : D) where
  -- half B was at rest, and then half A alone was written and came to rest
  pub rest_both : left new A (moment new) (seen new A) → LeavesOnly (seen mid B) (left mid B (moment mid)) → LeavesOnly (seen new A) (left new A (moment new)) → seen new B ≡ seen mid B → Changes moment (HalvesLeft left) mid new (OnHalves (At A (SameElsewhere n))) → IsAtRest seen moment left new
  rest_both read only_b only_a same changes A x image = only_a x image
  rest_both read only_b only_a same changes B x image =
      let both : Halves = record { a = seen new A; b = x } in
      let from = changes.own (moment new) both changes.later (omega arith) (read, image) in
      from.2.1 ∙ only_b from.0.b from.1.1 ∙ sym same
