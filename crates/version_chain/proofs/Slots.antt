-- The slots of a page, replaced one after the other.
use Rattle.std.proofs.Common.{◌≡◌, ℕ, zero, suc, ◌+◌, ◌<◌, ◌≤◌, Bool, true, false, ◌||◌, List, [], ◌∷◌, ◌++◌, length, take, drop, refl, sym, ap, subst, ◌∙◌, Option, Some, option_map, is_some, arith, get_or, add-one}
use Rattle.std.proofs.Math.ListN.{length-set}
use Rattle.std.specs.Option.{option_map_or}
use Rattle.std.specs.List.{slice_get, slice_set, list_any}
use Rattle.tree_model.proofs.Paths.{never}
use Rattle.page_codec.specs.Values.{ReferenceValue}
use Rattle.page_codec.specs.Bounds.{is_used}
use Rattle.draft_model.specs.Views.{View}
use Rattle.draft_model.specs.Flush.{Placed, block_of, flushed_slot, flushed_slots}
use Rattle.draft_model.proofs.Flushing.{slots_get, slots_length}

abbrev Slots : Type 0
Slots = List ReferenceValue

same_reference : (x y : ReferenceValue) → Some x ≡ Some y → x ≡ y
same_reference x y e = ap (λ (o : Option ReferenceValue). option_map_or (λ (r : ReferenceValue). r) o x) e

-- where k slots are new, the next one is still old
get_next : (new old : Slots) (k : ℕ) → k ≤ length new → k < length old → slice_get (take k new ++ drop k old) k ≡ slice_get old k
get_next new old zero h g = refl
get_next [] old (suc k) h g = absurd (omega arith)
get_next (x ∷ new) [] (suc k) h g = absurd (omega arith)
get_next (x ∷ new) (y ∷ old) (suc k) h g = get_next new old k (omega arith) (omega arith)

set_next : (new old : Slots) (k : ℕ) (y : ReferenceValue) → slice_get new k ≡ Some y → k < length old
    → slice_set (take k new ++ drop k old) k y ≡ take (suc k) new ++ drop (suc k) old
set_next [] old k y is h = absurd (cc)
set_next (x ∷ new) [] k y is h = absurd (omega arith)
set_next (x ∷ new) (z ∷ old) zero y is h = ap (λ (r : ReferenceValue). r ∷ old) (sym (same_reference x y is))
set_next (x ∷ new) (z ∷ old) (suc k) y is h = ap (λ (rs : Slots). x ∷ rs) (set_next new old k y is (omega arith))

-- an element that is there
got : (xs : Slots) (k : ℕ) (x : ReferenceValue) → k < length xs → x ≡ get_or xs k x → slice_get xs k ≡ Some x
got [] k x h e = absurd (omega arith)
got (y ∷ xs) zero x h e = ap (λ (r : ReferenceValue). Some r) (sym e)
got (y ∷ xs) (suc k) x h e = got xs k x (omega arith) e

or_none : (a b : Bool) → (a || b) ≡ false → (a ≡ false) × (b ≡ false)
or_none true b h = never refl h
or_none false b h = (refl, h)

-- where no slot is in use, this one is not
unused_at : (xs : Slots) (k : ℕ) (x : ReferenceValue) → list_any is_used xs ≡ false → slice_get xs k ≡ Some x → is_used x ≡ false
unused_at [] k x none at = absurd (cc)
unused_at (y ∷ xs) zero x none at = ap is_used (sym (same_reference y x at)) ∙ (or_none (is_used y) (list_any is_used xs) none).0
unused_at (y ∷ xs) (suc k) x none at = unused_at xs k x (or_none (is_used y) (list_any is_used xs) none).1 at

unused_set : (xs : Slots) (k : ℕ) (x : ReferenceValue) → list_any is_used xs ≡ false → is_used x ≡ false → list_any is_used (slice_set xs k x) ≡ false
unused_set [] k x none unused = refl
unused_set (y ∷ xs) zero x none unused = λ i. unused i || (or_none (is_used y) (list_any is_used xs) none).1 i
unused_set (y ∷ xs) (suc k) x none unused =
    let parts = or_none (is_used y) (list_any is_used xs) none in
    λ i. parts.0 i || unused_set xs k x parts.1 unused i

-- one slot more is as it is written
pub record SlotsSoFar (d : View) (placed : List Placed) (above : List ℕ) (old refs : Slots) (k : ℕ) : Type 0 where
  pub sixteen : length old ≡ 16
  pub size : length refs ≡ 16
  pub written : refs ≡ take k (flushed_slots d placed above 0 old) ++ drop k old
  pub leaf : length above ≡ 7 → list_any is_used old ≡ false → list_any is_used refs ≡ false

pub one_slot : (d : View) (placed : List Placed) (above : List ℕ) (old refs : Slots) (k s : ℕ) (x y : ReferenceValue)
    → SlotsSoFar d placed above old refs k → k < 16 → s ≡ k → x ≡ get_or refs k x
    → y ≡ flushed_slot (d (above ++ s ∷ [])) (block_of placed (above ++ s ∷ [])) (get_or refs k x) → (length above ≡ 7 → y.block ≡ (get_or refs k x).block)
    → SlotsSoFar d placed above old (slice_set refs k y) (k + 1)
one_slot d placed above old refs k s x y so_far small slot is y_is deep = record {
  sixteen = so_far.sixteen;
  size = length-set refs k y ∙ so_far.size;
  written =
      ap (λ (rs : Slots). slice_set rs k y) so_far.written
      ∙ set_next (flushed_slots d placed above 0 old) old k y new_is in_old
      ∙ (λ i. take (sym (add-one k) i) (flushed_slots d placed above 0 old) ++ drop (sym (add-one k) i) old);
  leaf = λ at_leaf none.
      let before = so_far.leaf at_leaf none in
      unused_set refs k y before (ap is_some (deep at_leaf ∙ ap (λ (r : ReferenceValue). r.block) (sym is)) ∙ unused_at refs k x before here);
}
  where
    in_old : k < length old
    in_old = subst (λ (n : ℕ). k < n) (sym so_far.sixteen) small

    here : slice_get refs k ≡ Some x
    here = got refs k x (subst (λ (n : ℕ). k < n) (sym so_far.size) small) is

    old_is : slice_get old k ≡ Some x
    old_is =
        sym (get_next (flushed_slots d placed above 0 old) old k (omega (arith, slots_length d placed above 0 old, in_old)) in_old)
        ∙ ap (λ (rs : Slots). slice_get rs k) (sym so_far.written) ∙ here

    new_is : slice_get (flushed_slots d placed above 0 old) k ≡ Some y
    new_is =
        slots_get d placed above 0 old k k (omega arith)
        ∙ ap (option_map (flushed_slot (d (above ++ k ∷ [])) (block_of placed (above ++ k ∷ [])))) (old_is ∙ ap (λ (r : ReferenceValue). Some r) is)
        ∙ ap (λ (n : ℕ). Some (flushed_slot (d (above ++ n ∷ [])) (block_of placed (above ++ n ∷ [])) (get_or refs k x))) (sym slot)
        ∙ ap (λ (r : ReferenceValue). Some r) (sym y_is)
