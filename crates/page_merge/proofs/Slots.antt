-- The slots of a merged page, one by one.
use Rattle.std.proofs.Common.{◌≡◌, ℕ, zero, suc, ◌+◌, ◌<◌, ◌≤◌, Bool, true, false, List, [], ◌∷◌, ◌++◌, take, slice_get, get_or, length, ◌||◌, refl, sym, ap, ◌∙◌, Option, Some, None, arith, add-one, true≢false, is_some}
use Rattle.std.specs.Option.{option_or}
use Rattle.std.specs.List.{list_any}
use Rattle.page_codec.specs.Values.{ReferenceValue}
use Rattle.page_codec.specs.Bounds.{is_used}
use Rattle.page_places.specs.Places.{has_bit}
use Rattle.page_merge.specs.Jobs.{merged_slot, merged_slots}

pub slots_get : (kept changed s : ℕ) (mine theirs : List ReferenceValue) (k n : ℕ) (m t : ReferenceValue) → s + k ≡ n → slice_get mine k ≡ Some m → slice_get theirs k ≡ Some t
    → slice_get (merged_slots kept changed s mine theirs) k ≡ Some (merged_slot (has_bit kept n) (has_bit changed n) m t)
slots_get kept changed s [] theirs k n m t e f g = absurd (true≢false (ap is_some (sym f)))
slots_get kept changed s (x ∷ mine) [] k n m t e f g = absurd (true≢false (ap is_some (sym g)))
slots_get kept changed s (x ∷ mine) (y ∷ theirs) zero n m t e f g =
    let is : s ≡ n = omega arith in
    let x_is : x ≡ m = some_is f in
    let y_is : y ≡ t = some_is g in
    λ i. Some (merged_slot (has_bit kept (is i)) (has_bit changed (is i)) (x_is i) (y_is i))
  where
    some_is : {x y : ReferenceValue} → Some x ≡ Some y → x ≡ y
    some_is e = cc
slots_get kept changed s (x ∷ mine) (y ∷ theirs) (suc k) n m t e f g = slots_get kept changed (s + 1) mine theirs k n m t (omega arith) f g

pub slots_none : (kept changed s : ℕ) (mine theirs : List ReferenceValue) (k : ℕ) → slice_get mine k ≡ None → slice_get (merged_slots kept changed s mine theirs) k ≡ None
slots_none kept changed s [] theirs k e = refl
slots_none kept changed s (x ∷ mine) [] k e = refl
slots_none kept changed s (x ∷ mine) (y ∷ theirs) zero e = absurd (true≢false (ap is_some e))
slots_none kept changed s (x ∷ mine) (y ∷ theirs) (suc k) e = slots_none kept changed (s + 1) mine theirs k e

pub slots_length : (kept changed s : ℕ) (mine theirs : List ReferenceValue) → length mine ≡ length theirs → length (merged_slots kept changed s mine theirs) ≡ length theirs
slots_length kept changed s [] theirs e = e
slots_length kept changed s (x ∷ mine) [] e = refl
slots_length kept changed s (x ∷ mine) (y ∷ theirs) e = ap suc (slots_length kept changed (s + 1) mine theirs (omega (arith, e)))

get_is : (xs : List ReferenceValue) (i : ℕ) → i < length xs → (x : ReferenceValue) × (slice_get xs i ≡ Some x)
get_is [] i h = absurd (omega arith)
get_is (x ∷ xs) zero h = (x, refl)
get_is (x ∷ xs) (suc i) h = get_is xs i (omega arith)

-- one more item
pub take_one : (xs : List ReferenceValue) (i : ℕ) (x : ReferenceValue) → slice_get xs i ≡ Some x → take (i + 1) xs ≡ take i xs ++ x ∷ []
take_one xs i x e = ap (λ n. take n xs) (add-one i) ∙ by xs i x e
  where
    by : (xs : List ReferenceValue) (i : ℕ) (x : ReferenceValue) → slice_get xs i ≡ Some x → take (suc i) xs ≡ take i xs ++ x ∷ []
    by [] i x e = absurd (true≢false (ap is_some (sym e)))
    by (y ∷ xs) zero x e = let is : y ≡ x = cc in λ i. is i ∷ []
    by (y ∷ xs) (suc i) x e = ap (λ (ys : List ReferenceValue). y ∷ ys) (by xs i x e)

pub get_at : (xs : List ReferenceValue) (i : ℕ) (d : ReferenceValue) → i < length xs → slice_get xs i ≡ Some (get_or xs i d)
get_at [] i d h = absurd (omega arith)
get_at (x ∷ xs) zero d h = refl
get_at (x ∷ xs) (suc i) d h = get_at xs i d (omega arith)

pub take_full : (xs : List ReferenceValue) (n : ℕ) → length xs ≤ n → take n xs ≡ xs
take_full [] zero h = refl
take_full [] (suc n) h = refl
take_full (x ∷ xs) zero h = absurd (omega arith)
take_full (x ∷ xs) (suc n) h = ap (λ (ys : List ReferenceValue). x ∷ ys) (take_full xs n (omega arith))

-- a page of level 7 has no slot in use
pub none_used : (kept changed s : ℕ) (mine theirs : List ReferenceValue) → list_any is_used mine ≡ false → list_any is_used theirs ≡ false
    → list_any is_used (merged_slots kept changed s mine theirs) ≡ false
none_used kept changed s [] theirs e f = refl
none_used kept changed s (m ∷ mine) [] e f = refl
none_used kept changed s (m ∷ mine) (t ∷ theirs) e f =
    let me = neither (is_used m) (list_any is_used mine) e in
    let they = neither (is_used t) (list_any is_used theirs) f in
    λ i. by (has_bit kept s) (has_bit changed s) m t me.0 they.0 i || none_used kept changed (s + 1) mine theirs me.1 they.1 i
  where
    neither : (a b : Bool) → (a || b) ≡ false → (a ≡ false) × (b ≡ false)
    neither true b h = absurd (true≢false h)
    neither false b h = (refl, h)

    or_none : (a b : Option ℕ) → is_some a ≡ false → is_some b ≡ false → is_some (option_or a b) ≡ false
    or_none None b h g = g
    or_none (Some x) b h g = absurd (true≢false h)

    by : (k c : Bool) (m t : ReferenceValue) → is_used m ≡ false → is_used t ≡ false → is_used (merged_slot k c m t) ≡ false
    by true c m t h g = or_none t.block m.block g h
    by false true m t h g = h
    by false false m t h g = g
