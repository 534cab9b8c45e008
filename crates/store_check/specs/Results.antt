-- What a walk in code gives, against the walk that says what a store is.
use Rattle.std.specs.Prelude.{◌≡◌, ℕ, Bool, true, List, Result, Ok, Err}
use Rattle.store_check.specs.declared.refused.WalkRefused.{WalkRefused}
use Rattle.store_check.specs.declared.refused.WalkRefused.TheVariants.{ReadFault, BadStore, Memory}
use Rattle.drives.specs.declared.device.Half.{Half}
use Rattle.page_codec.specs.declared.why.Why.TheVariants.{Closed}
use Rattle.pair_store.specs.declared.fault.PairFault.{PairFault}
use Rattle.pair_store.specs.declared.fault.PairFault.TheVariants.{ReadFault as Unread, WriteFault, BothClosed, BadPage}
use Rattle.store_model.specs.Walk.{Refused}

-- what a walk came to
abbrev pub Outcome : Type 0 → Type 0
Outcome X = Result (X × List ℕ) Refused

-- why a walk in code stopped, and of each half whether its last fault was before the last call of a device
pub record Stop : Type 0 where
  pub refused : WalkRefused
  pub past : Half → Bool

abbrev pub StopsBy : {X : Type 0} → WalkRefused → (Half → Bool) → Outcome X → Type 0
StopsBy (BadStore block why) past outcome = outcome ≡ Err (record { block = block; why = why })
StopsBy (ReadFault half) past outcome = past half ≡ true → (e : Refused) × (outcome ≡ Err e)
StopsBy Memory past outcome = Unit {0}

-- The walk stops at the same cause. Where a call came after the fault of a half, it was a read of the other half, which was found closed, so the
-- walk stops there too; else a fault says nothing, and neither does want of memory.
abbrev pub Stops : {X : Type 0} → Stop → Outcome X → Type 0
Stops stop outcome = StopsBy stop.refused stop.past outcome

-- it finds what the walk finds, seen in this way, and the same places; or it stops where the walk stops
abbrev pub Walks : {T X : Type 0} → (Half → Bool) → (T → X) → Result T WalkRefused → Outcome X → List ℕ → Type 0
Walks past view (Ok x) outcome after = outcome ≡ Ok (view x, after)
Walks past view (Err e) outcome after = Stops (record { refused = e; past = past }) outcome

-- the same, where it shows a part alone of what the walk finds
abbrev pub Shows : {T X : Type 0} → (Half → Bool) → (T → X → Type 0) → Result T WalkRefused → Outcome X → List ℕ → Type 0
Shows {X = X} past Like (Ok x) outcome after = (found : X) × Like x found × (outcome ≡ Ok (found, after))
Shows past Like (Err e) outcome after = Stops (record { refused = e; past = past }) outcome

-- the walk finds something, which is not shown
abbrev pub ShowsNone : {T X : Type 0} → (Half → Bool) → Result T WalkRefused → Outcome X → List ℕ → Type 0
ShowsNone {X = X} past result outcome after = Shows past (λ _ (_ : X). Unit {0}) result outcome after

-- a fault in the last call of a device, or want of memory
abbrev pub IsNoCauseBy : WalkRefused → (Half → Bool) → Type 0
IsNoCauseBy (BadStore block why) past = ⊥
IsNoCauseBy (ReadFault half) past = past half ≡ true → ⊥
IsNoCauseBy Memory past = Unit {0}

abbrev pub IsNoCause : Stop → Type 0
IsNoCause stop = IsNoCauseBy stop.refused stop.past

-- it gets this, but for such a fault and want of memory
abbrev pub Gets : {T : Type 0} → (Half → Bool) → (T → Type 0) → Result T WalkRefused → Type 0
Gets past P (Ok x) = P x
Gets past P (Err e) = IsNoCause (record { refused = e; past = past })

-- a block that could not be read: a fault of a half, or else neither half has content
abbrev pub refused_read : ℕ → PairFault → WalkRefused
refused_read n (Unread half) = ReadFault half
refused_read n (WriteFault half) = BadStore n Closed
refused_read n (BothClosed block) = BadStore n Closed
refused_read n (BadPage block why) = BadStore n Closed
