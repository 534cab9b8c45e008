-- Slots of a page and bits of masks.
use Rattle.std.proofs.Common.{◌≡◌, ℕ, zero, suc, Bool, true, false, ◌||◌, List, [], ◌∷◌, ap, slice_set}
use Rattle.std.specs.List.{list_any}
use Rattle.page_codec.specs.Bounds.{IsSoundPage, is_used}
use Rattle.page_codec.specs.Blank.{empty_reference}
use Rattle.page_codec.specs.Values.{ReferenceValue, PageValue}

-- where no element passes, none does after one is replaced by one that fails
pub any_set : {A : Type 0} (test : A → Bool) (xs : List A) (i : ℕ) (x : A) → test x ≡ false → list_any test xs ≡ false → list_any test (slice_set xs i x) ≡ false
any_set test [] i x h g = g
any_set test (y ∷ xs) zero x h g = by (test y) (test x) h g
  where
    by : (a b : Bool) → b ≡ false → (a || list_any test xs) ≡ false → (b || list_any test xs) ≡ false
    by true true h g = g
    by true false h g = cc
    by false true h g = cc
    by false false h g = g
any_set test (y ∷ xs) (suc i) x h g = by (test y) (any_set test xs i x h) g
  where
    by : (a : Bool) → (list_any test xs ≡ false → list_any test (slice_set xs i x) ≡ false) → (a || list_any test xs) ≡ false → (a || list_any test (slice_set xs i x)) ≡ false
    by true rest g = g
    by false rest g = rest g

-- a page with a slot emptied is as sound as before
pub sound_without : (page : PageValue) (s : ℕ) (r : ReferenceValue) (mask : ℕ) → r ≡ empty_reference → IsSoundPage page
    → IsSoundPage (record { level = page.level; modified = mask; refs = slice_set page.refs s r; bytes = page.bytes })
sound_without page s r mask is sound = record {
  depth = sound.depth;
  leaf = λ h. any_set is_used page.refs s r (ap is_used is) (sound.leaf h);
}
