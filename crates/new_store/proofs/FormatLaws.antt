-- Closing block 0, and then writing the new store.
use Rattle.std.proofs.Common.{◌≡◌, ◌≢◌, ◌⊎◌, inl, inr, ℕ, ◌≤◌, List, Option, None, Result, Ok, Err, IfOk, sym, ◌∙◌, subst, arith}
use Rattle.drives.specs.Changes.{Changes, LeavesNow}
use Rattle.drives.proofs.Composing.{goes_on, leaves_now, weaker}
use Rattle.pair_store.specs.Blocks.{SameContents, SameOthers}
use Rattle.pair_store.specs.Closing.{OldOrNone}
use Rattle.new_store.specs.declared.store.NewStore.{NewStore}
use Rattle.new_store.specs.Formatting.{IsFilled, IsFormatting, SameBeyond}
use Rattle.new_store.specs.Sizes.{used_blocks}

-- changes of a store that holds another are changes of that one
pub lowered : {P D X : Type 0} (f : P → D) (moment : D → ℕ) (left : D → ℕ → X → Type 0) (p q : P) (R : X → X → Type 0) → Changes (λ s. moment (f s)) (λ s. left (f s)) p q R → Changes moment left (f p) (f q) R
lowered f moment left p q R changes = record { later = changes.later; last = changes.last; stuck = changes.stuck; past = changes.past; own = changes.own }

-- the same drives under another name
pub moved : {D X : Type 0} (moment : D → ℕ) (left : D → ℕ → X → Type 0) (p q p' q' : D) (R : X → X → Type 0) → p ≡ p' → q ≡ q' → Changes moment left p q R → Changes moment left p' q' R
moved {D = D} moment left p q p' q' R e e' changes = subst (λ (w : D). Changes moment left p' w R) e' (subst (λ (w : D). Changes moment left w q R) e changes)

-- what holds of an Ok value may be said as less
pub if_ok_weaker : {T E : Type 0} (r : Result T E) (P Q : T → Type 0) → ((x : T) → P x → Q x) → IfOk r P → IfOk r Q
if_ok_weaker (Ok x) P Q less p = less x p
if_ok_weaker (Err e) P Q less p = tt

pub beyond_other : (files k : ℕ) → used_blocks files ≤ k → k ≢ 0
beyond_other files k beyond = λ e. omega (arith, beyond, e)

either : (n : ℕ) → (n ≡ 0) ⊎ (n ≢ 0)
either n = grind arith

-- while block 0 is being closed, all is as it was or block 0 is closed
closing_stage : (f g : ℕ → Option (List ℕ)) → OldOrNone 0 f g → (g 0 ≡ f 0) ⊎ (g 0 ≡ None) → SameContents f g ⊎ (g 0 ≡ None)
closing_stage f g r (inl same) = inl (λ k. elim (either k) [ inl e ↦ subst (λ (m : ℕ). g m ≡ f m) (sym e) same | inr ne ↦ r.others k ne ])
closing_stage f g r (inr none) = inr none

closing_formatting : (s : NewStore) (f g : ℕ → Option (List ℕ)) → OldOrNone 0 f g → IsFormatting s f g
closing_formatting s f g r = record {
  beyond = λ k beyond. r.others k (beyond_other s.files k beyond);
  stage = elim (closing_stage f g r r.here) [ inl same ↦ inl same | inr none ↦ inr (inl none) ];
}

-- block 0 is closed, and all others are as they were
abbrev IsShut : (ℕ → Option (List ℕ)) → (ℕ → Option (List ℕ)) → Type 0
IsShut f g = SameOthers 0 f g × (g 0 ≡ None)

filled_formatting : (s : NewStore) (f g h : ℕ → Option (List ℕ)) → IsShut f g → IsFilled s g h → IsFormatting s f h
filled_formatting s f g h r t = record {
  beyond = λ k beyond. t.beyond k beyond ∙ r.0 k (beyond_other s.files k beyond);
  stage = elim t.table [ inl same ↦ inr (inl (same ∙ r.1)) | inr has ↦ inr (inr has) ];
}

module _ {D : Type 0} (moment : D → ℕ) (left : D → ℕ → (ℕ → Option (List ℕ)) → Type 0) (s : NewStore) (old mid : D) where
  -- the closing of block 0 was cut off
  pub closing : Changes moment left old mid (OldOrNone 0) → Changes moment left old mid (IsFormatting s)
  closing changes = weaker moment left old mid (OldOrNone 0) (IsFormatting s) changes (λ f g _ r. closing_formatting s f g r)

  pub closing_beyond : Changes moment left old mid (SameOthers 0) → Changes moment left old mid (SameBeyond s.files)
  closing_beyond changes = weaker moment left old mid (SameOthers 0) (SameBeyond s.files) changes (λ f g _ r k beyond. r k (beyond_other s.files k beyond))

  shut_now : Changes moment left old mid (OldOrNone 0) → ((f : ℕ → Option (List ℕ)) → left mid (moment mid) f → f 0 ≡ None) → LeavesNow moment left old mid IsShut
  shut_now changes shut g image =
      let from = leaves_now moment left old mid (OldOrNone 0) changes g image in
      (from.0, from.1, (from.2.others, shut g image))

  -- block 0 was closed, and then the new store was written
  pub formatting : (new : D) → Changes moment left old mid (OldOrNone 0) → ((f : ℕ → Option (List ℕ)) → left mid (moment mid) f → f 0 ≡ None) → Changes moment left mid new (IsFilled s) → Changes moment left old new (IsFormatting s)
  formatting new changes shut second =
      goes_on moment left old mid new (OldOrNone 0) IsShut (IsFilled s) (IsFormatting s)
      changes
      (shut_now changes shut)
      second
      (λ f g _ r. closing_formatting s f g r)
      (λ f g h _ r t. filled_formatting s f g h r t)

  pub formatting_beyond : (new : D) → Changes moment left old mid (SameOthers 0) → Changes moment left mid new (SameBeyond s.files) → Changes moment left old new (SameBeyond s.files)
  formatting_beyond new changes second =
      goes_on moment left old mid new (SameOthers 0) (SameOthers 0) (SameBeyond s.files) (SameBeyond s.files)
      changes
      (leaves_now moment left old mid (SameOthers 0) changes)
      second
      (λ f g _ r k beyond. r k (beyond_other s.files k beyond))
      (λ f g h _ r t k beyond. t k beyond ∙ r k (beyond_other s.files k beyond))
