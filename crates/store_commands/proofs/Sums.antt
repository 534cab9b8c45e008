-- Sums over lists that go side by side.
use Rattle.std.proofs.Common.{◌≡◌, ℕ, ◌+◌, ◌==◌, ◌<◌, Bool, not, nat_lt, List, [], ◌∷◌, map, take, drop, sum_by, refl, sym, ap, ◌∙◌, suc, true, arith}
use Rattle.std.specs.Bool.{Decides}
use Rattle.std.specs.List.{list_any}
use Rattle.std.proofs.lemmas.Bool.Decides.{Decides-eqb, Decides-ltb, Decides-not, same_from_decides}
use Rattle.std.proofs.lemmas.List.{take-map, drop-map}
use Rattle.std.proofs.lemmas.List.Sums.{sum_by-cons}
use Rattle.tree_model.proofs.PlaceFacts.{any_map}
use Rattle.store_model.proofs.Lying.{Each}

-- two views of the same things whose numbers are the same
pub sums_same : {X Y Z : Type 0} (f : X → ℕ) (g : Y → ℕ) (h : Z → X) (k : Z → Y) (P : Z → Type 0) (zs : List Z) → ((z : Z) → P z → f (h z) ≡ g (k z)) → Each P zs
    → sum_by f (map h zs) ≡ sum_by g (map k zs)
sums_same f g h k P [] same each = refl
sums_same f g h k P (z ∷ zs) same each =
    sum_by-cons f (h z) (map h zs) ∙ (λ i. same z each.0 i + sums_same f g h k P zs same each.1 i) ∙ sym (sum_by-cons g (k z) (map k zs))

-- the number after another is above 0
pub some_above : (n : ℕ) → true ≡ nat_lt 0 (suc n)
some_above n = sym ((Decides-ltb 0 (suc n)).1 (omega arith))

-- a number is above 0 where it is not 0
pub above_0 : (n : ℕ) → not (n == 0) ≡ nat_lt 0 n
above_0 n =
    let d : Decides (n == 0) (n ≡ 0) = Decides-eqb n 0 in
    let e : Decides (not (n == 0)) (¬ (n ≡ 0)) = Decides-not (n == 0) d in
    let above : Decides (not (n == 0)) (0 < n) = (λ h. let f : ¬ (n ≡ 0) = e.0 h in omega (arith, f), λ h. e.1 (λ z. omega (arith, h, z))) in
    same_from_decides (not (n == 0)) (nat_lt 0 n) above (Decides-ltb 0 n)

-- a test of numbers, in a piece of two lists that have the same numbers
pub any_same : {X Y : Type 0} (test : ℕ → Bool) (f : X → ℕ) (g : Y → ℕ) (n m : ℕ) (xs : List X) (ys : List Y) → map f xs ≡ map g ys
    → list_any (λ x. test (f x)) (take n (drop m xs)) ≡ list_any (λ y. test (g y)) (take n (drop m ys))
any_same {X} {Y} test f g n m xs ys same = of f xs ∙ ap (λ ns. list_any test (take n (drop m ns))) same ∙ sym (of g ys)
  where
    of : {Z : Type 0} (h : Z → ℕ) (zs : List Z) → list_any (λ z. test (h z)) (take n (drop m zs)) ≡ list_any test (take n (drop m (map h zs)))
    of h zs = sym (any_map h test (take n (drop m zs))) ∙ ap (list_any test) (sym (take-map h n (drop m zs)) ∙ ap (take n) (sym (drop-map h m zs)))
