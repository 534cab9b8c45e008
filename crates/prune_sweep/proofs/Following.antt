-- Which slots are followed, by the version that is read.
use Rattle.std.proofs.Common.{◌≡◌, ◌⊎◌, inl, inr, ℕ, zero, suc, Bool, true, false, cond, List, [], ◌∷◌, ◌++◌, Some, None, refl, ap, ◌∙◌}
use Rattle.tree_model.proofs.Paths.{told}
use Rattle.page_codec.specs.Values.{ReferenceValue}
use Rattle.prune_sweep.specs.declared.slots.Following.{Following}
use Rattle.prune_sweep.specs.declared.slots.Following.TheVariants.{AllNew, Copies, CopiesAndShared, AllShared}
use Rattle.prune_sweep.specs.Slots.{new_block, shared_block}
use Rattle.prune_sweep.specs.Progress.{following_at}
use Rattle.prune_sweep.specs.Sweeping.{stage_at}

-- a version that goes, and the one that stays, by their places
abbrev pub gone_at : ℕ → Following
gone_at zero = AllNew
gone_at (suc i) = Copies

abbrev pub held_at : ℕ → Following
held_at zero = AllNew
held_at (suc i) = CopiesAndShared

pub gone_is : (i : ℕ) → following_at (stage_at i) false ≡ gone_at i
gone_is zero = refl
gone_is (suc i) = refl

pub held_is : (i : ℕ) → following_at (stage_at i) true ≡ held_at i
held_is zero = refl
held_is (suc i) = refl

-- a version that goes shares nothing
pub gone_shares : (i : ℕ) (r : ReferenceValue) (x : ℕ) → shared_block (gone_at i) r ≡ Some x → ⊥
gone_shares zero r x e = cc
gone_shares (suc i) r x e = cc

pub copied_new : (r : ReferenceValue) (x : ℕ) → cond r.flags.copied r.block None ≡ Some x → (r.flags.copied ≡ true) × (r.block ≡ Some x)
copied_new r x e = by r.flags.copied refl e
  where
    by : (b : Bool) → r.flags.copied ≡ b → cond b r.block None ≡ Some x → (r.flags.copied ≡ true) × (r.block ≡ Some x)
    by true is h = (is, h)
    by false is h = absurd cc

pub plain_shared : (r : ReferenceValue) (x : ℕ) → cond r.flags.copied None r.block ≡ Some x → (r.flags.copied ≡ false) × (r.block ≡ Some x)
plain_shared r x e = by r.flags.copied refl e
  where
    by : (b : Bool) → r.flags.copied ≡ b → cond b None r.block ≡ Some x → (r.flags.copied ≡ false) × (r.block ≡ Some x)
    by true is h = absurd cc
    by false is h = (is, h)

-- a slot that is followed names that block
pub new_names : (f : Following) (r : ReferenceValue) (x : ℕ) → new_block f r ≡ Some x → r.block ≡ Some x
new_names AllNew r x e = e
new_names Copies r x e = (copied_new r x e).1
new_names CopiesAndShared r x e = (copied_new r x e).1
new_names AllShared r x e = absurd cc

pub shared_names : (f : Following) (r : ReferenceValue) (x : ℕ) → shared_block f r ≡ Some x → r.block ≡ Some x
shared_names AllNew r x e = absurd cc
shared_names Copies r x e = absurd cc
shared_names CopiesAndShared r x e = (plain_shared r x e).1
shared_names AllShared r x e = e

-- a new page of a version that goes: the slot is followed, or it is one of a later version, and no copy's
pub gone_slot : (i : ℕ) (r : ReferenceValue) (x : ℕ) → r.block ≡ Some x → (new_block (gone_at i) r ≡ Some x) ⊎ ((j : ℕ) × (i ≡ suc j) × (r.flags.copied ≡ false))
gone_slot zero r x e = inl e
gone_slot (suc j) r x e = elim (told r.flags.copied) [
  | inl copied ↦ inl (ap (λ b. cond b r.block None) copied ∙ e)
  | inr plain ↦ inr (j, refl, plain)
]

-- each slot of a page of the version that stays is followed
pub held_slot : (i : ℕ) (r : ReferenceValue) (x : ℕ) → r.block ≡ Some x → (new_block (held_at i) r ≡ Some x) ⊎ (shared_block (held_at i) r ≡ Some x)
held_slot zero r x e = inl e
held_slot (suc j) r x e = elim (told r.flags.copied) [
  | inl copied ↦ inl (ap (λ b. cond b r.block None) copied ∙ e)
  | inr plain ↦ inr (ap (λ b. cond b None r.block) plain ∙ e)
]

-- a slot of the version that stays that names a page of the one before
pub held_shares : (i : ℕ) (r : ReferenceValue) (x : ℕ) → shared_block (held_at i) r ≡ Some x → (j : ℕ) × (i ≡ suc j) × (r.flags.copied ≡ false) × (r.block ≡ Some x)
held_shares zero r x e = absurd cc
held_shares (suc j) r x e = let t = plain_shared r x e in (j, refl, t.0, t.1)

-- a new place of a later version is named by the slot of a copy
pub gone_copied : (i : ℕ) (r : ReferenceValue) (x : ℕ) → new_block (gone_at i) r ≡ Some x → (i ≡ 0) ⊎ (r.flags.copied ≡ true)
gone_copied zero r x e = inl refl
gone_copied (suc i) r x e = inr (copied_new r x e).0

pub held_copied : (i : ℕ) (r : ReferenceValue) (x : ℕ) → new_block (held_at i) r ≡ Some x → (i ≡ 0) ⊎ (r.flags.copied ≡ true)
held_copied zero r x e = inl refl
held_copied (suc i) r x e = inr (copied_new r x e).0

-- paths with one slot more
pub snoc_is : (p q : List ℕ) (s t : ℕ) → p ++ s ∷ [] ≡ q ++ t ∷ [] → (p ≡ q) × (s ≡ t)
snoc_is [] [] s t e = (refl, cc)
snoc_is [] (y ∷ []) s t e = absurd cc
snoc_is [] (y ∷ z ∷ q) s t e = absurd cc
snoc_is (x ∷ []) [] s t e = absurd cc
snoc_is (x ∷ z ∷ p) [] s t e = absurd cc
snoc_is (x ∷ p) (y ∷ q) s t e =
    let head : x ≡ y = cc in
    let tail : p ++ s ∷ [] ≡ q ++ t ∷ [] = cc in
    let rest = snoc_is p q s t tail in
    (let r : p ≡ q = rest.0 in cc, rest.1)

pub snoc_some : (p : List ℕ) (s : ℕ) → p ++ s ∷ [] ≡ [] → ⊥
snoc_some [] s e = cc
snoc_some (x ∷ p) s e = cc
