-- Paths of pages in blocks have slots below 16, and so has every path of a tree that steps made of them.
use Rattle.std.proofs.Common.{◌≡◌, ℕ, zero, suc, ◌<◌, Bool, true, false, not, ◌&&◌, cond, nat_lt, List, [], ◌∷◌, ◌++◌, length, slice_get, inl, inr, refl, sym, ap, subst, ◌∙◌, Option, Some, None, is_some, arith, ltb-true, lt-ltb, true≢false}
use Rattle.std.specs.Option.{option_and_then}
use Rattle.std.specs.List.{list_all}
use Rattle.std.specs.Cmp.{first_so, second_so}
use Rattle.std.specs.FinMap as map
use Rattle.afs_base.specs.Path.{is_prefix, are_slots}
use Rattle.tree_model.specs.declared.step.Step.{Step}
use Rattle.tree_model.specs.declared.step.Step.TheVariants.{ReadAt, ListAt, WriteAt, MakeAt, DropAt}
use Rattle.tree_model.specs.Trees.{Tree, has, path_of, can_make, without, after, tree_after}
use Rattle.tree_model.specs.Accesses.{target}
use Rattle.tree_model.proofs.Paths.{never}
use Rattle.tree_model.proofs.TreeFacts.{had, has_without}
use Rattle.page_codec.specs.Values.{ReferenceValue, PageValue}
use Rattle.page_places.specs.Places.{Store, Holds, slot_block, block_at}
use Rattle.draft_model.specs.Flush.{AreWhole}

pub none_some : {A : Type 0} {C : Type 0} (x : A) (o : Option A) → o ≡ None → o ≡ Some x → C
none_some x o e g = absurd (true≢false (ap is_some (sym g ∙ e)))

-- ---- in blocks

get_small : {A : Type 0} (xs : List A) (k : ℕ) → is_some (slice_get xs k) ≡ true → k < length xs
get_small [] k h = never h refl
get_small (x ∷ xs) zero h = omega arith
get_small (x ∷ xs) (suc k) h = let rest = get_small xs k h in omega (arith, rest)

-- a slot that names a block is one of the page's
slot_within : (page : PageValue) (s y : ℕ) → slot_block page s ≡ Some y → s < length page.refs
slot_within page s y h = get_small page.refs s (by (slice_get page.refs s) h)
  where
    by : (o : Option ReferenceValue) → option_and_then (λ (r : ReferenceValue). r.block) o ≡ Some y → is_some o ≡ true
    by None e = none_some y None refl e
    by (Some r) e = refl

pub slot_below : (page : PageValue) (s y : ℕ) → length page.refs ≡ 16 → slot_block page s ≡ Some y → s < 16
slot_below page s y whole h = let P : ℕ → Type 0 = λ n. s < n in subst P whole (slot_within page s y h)

block_slots : (store : Store) → AreWhole store → (p : List ℕ) (b x : ℕ) → block_at store b p ≡ Some x → are_slots p ≡ true
block_slots store whole [] b x h = refl
block_slots store whole (s ∷ p) b x h = by (λ c. block_slots store whole p c x) (store b) refl h
  where
    into : ((c : ℕ) → block_at store c p ≡ Some x → are_slots p ≡ true) → (page : PageValue) → store b ≡ Some page → (o : Option ℕ) → slot_block page s ≡ o
        → option_and_then (λ (c : ℕ). block_at store c p) o ≡ Some x → (nat_lt s 16 && are_slots p) ≡ true
    into rest page e None f g = none_some x None refl g
    into rest page e (Some c) f g = (λ i. lt-ltb s 16 (slot_below page s c (whole b page e) f) i && rest c g i)

    by : ((c : ℕ) → block_at store c p ≡ Some x → are_slots p ≡ true) → (o : Option PageValue) → store b ≡ o
        → option_and_then (λ (c : ℕ). block_at store c p) (option_and_then (λ (page : PageValue). slot_block page s) o) ≡ Some x → (nat_lt s 16 && are_slots p) ≡ true
    by rest None e g = none_some x None refl g
    by rest (Some page) e g = into rest page e (slot_block page s) refl g

pub holds_some : (store : Store) (root : ℕ) (a : Tree) → Holds store root a → (p : List ℕ) → has a p ≡ true → (b : ℕ) × (block_at store root p ≡ Some b)
holds_some store root a holds p there = by (block_at store root p) refl
  where
    by : (o : Option ℕ) → block_at store root p ≡ o → (b : ℕ) × (o ≡ Some b)
    by None e = never there (ap is_some (holds.gone p e))
    by (Some b) e = (b, refl)

pub holds_has : (store : Store) (root : ℕ) (a : Tree) → Holds store root a → (p : List ℕ) (b : ℕ) → block_at store root p ≡ Some b → has a p ≡ true
holds_has store root a holds p b at = let held = holds.page p b at in ap is_some held.2

pub holds_slots : (store : Store) (root : ℕ) (a : Tree) → AreWhole store → Holds store root a → (p : List ℕ) → has a p ≡ true → are_slots p ≡ true
holds_slots store root a whole holds p there =
    let at = holds_some store root a holds p there in
    block_slots store whole p root at.0 at.1

-- ---- in trees

-- each path of the tree has slots below 16
abbrev pub AreAllSlots : Tree → Type 0
AreAllSlots t = (p : List ℕ) → has t p ≡ true → are_slots p ≡ true

put_slots : (t : Tree) (q bytes : List ℕ) → AreAllSlots t → are_slots q ≡ true → AreAllSlots (map.insert t q bytes)
put_slots t q bytes all small p there = elim (had t q bytes p there) [
  | inl e ↦ ap are_slots e ∙ small
  | inr e ↦ all p e
]

step_slots : (t : Tree) (step : Step) → AreAllSlots t → are_slots (target step) ≡ true → AreAllSlots (after t step)
step_slots t (ReadAt q) all small = all
step_slots t (ListAt q) all small = all
step_slots t (WriteAt q bytes) all small = by (has t q)
  where
    by : (b : Bool) → AreAllSlots (cond b (map.insert t q bytes) t)
    by true = put_slots t q bytes all small
    by false = all
step_slots t (MakeAt c) all small = by (can_make t c)
  where
    by : (b : Bool) → AreAllSlots (cond b (map.insert t (path_of c) []) t)
    by true = put_slots t (path_of c) [] all small
    by false = all
step_slots t (DropAt c) all small = by (has t (path_of c))
  where
    by : (b : Bool) → AreAllSlots (cond b (without t (path_of c)) t)
    by true p there = all p (second_so (not (is_prefix (path_of c) p)) (has t p) (sym (has_without t (path_of c) p) ∙ there))
    by false p there = all p there

pub run_slots : (t : Tree) (steps : List Step) → AreAllSlots t → list_all (λ (step : Step). are_slots (target step)) steps ≡ true → AreAllSlots (tree_after t steps)
run_slots t [] all small = all
run_slots t (step ∷ steps) all small =
    run_slots (after t step) steps (step_slots t step all (first_so (are_slots (target step)) (list_all (λ (s : Step). are_slots (target s)) steps) small))
    (second_so (are_slots (target step)) (list_all (λ (s : Step). are_slots (target s)) steps) small)

-- a slot of a path
pub child_slot : (p : List ℕ) (s : ℕ) → are_slots (p ++ s ∷ []) ≡ true → s < 16
child_slot [] s h = ltb-true s 16 (first_so (nat_lt s 16) true h)
child_slot (t ∷ p) s h = child_slot p s (second_so (nat_lt t 16) (are_slots (p ++ s ∷ [])) h)
