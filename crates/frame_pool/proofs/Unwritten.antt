-- Lists whose last elements are all the same one, and are not written out.
use Rattle.std.proofs.Common.{◌≡◌, ℕ, zero, suc, ◌+◌, ◌-◌, ◌<◌, List, [], ◌∷◌, ◌++◌, length, replicate, refl, sym, ap, ◌∙◌, Some, arith, length-append}
use Rattle.std.specs.Prelude.{slice_get, slice_index_or, slice_set}
use Rattle.std.proofs.lemmas.List.{length-replicate, set-append_left}
use Rattle.frame_pool.proofs.Blank.{front_kept}

one_in_front : {T : Type 0} (xs ys : List T) (y : T) → (xs ++ y ∷ []) ++ ys ≡ xs ++ y ∷ ys
one_in_front [] ys y = refl
one_in_front (x ∷ xs) ys y = ap (λ zs. x ∷ zs) (one_in_front xs ys y)

one_less : {T : Type 0} (xs : List T) (y : T) (n : ℕ) → 0 < n → (xs ++ y ∷ []) ++ replicate (n - 1) y ≡ xs ++ replicate n y
one_less xs y zero some = absurd (omega (arith, some))
one_less xs y (suc n) some =
    let less : suc n - 1 ≡ n = omega arith in
    ap (λ m. (xs ++ y ∷ []) ++ replicate m y) less ∙ one_in_front xs (replicate n y) y

-- one element more is written out
pub one_written : {T : Type 0} (xs more : List T) (x y : T) (n : ℕ) → 0 < n → x ≡ y → more ≡ xs ++ x ∷ []
    → more ++ replicate (n - 1) y ≡ xs ++ replicate n y
one_written xs more x y n some is last =
    ap (λ zs. zs ++ replicate (n - 1) y) (last ∙ ap (λ z. xs ++ z ∷ []) is) ∙ one_less xs y n some

-- how many there are
pub count_of_all : {T : Type 0} (xs all : List T) (y : T) (n : ℕ) → xs ++ replicate n y ≡ all → length all ≡ length xs + n
count_of_all xs all y n is = ap length (sym is) ∙ length-append xs (replicate n y) ∙ ap (λ m. length xs + m) (length-replicate n y)

-- what is set among those that are written out
pub set_in_front : {T : Type 0} (xs ys all : List T) (i j : ℕ) (w : T) → xs ++ ys ≡ all → i ≡ j → i < length xs
    → slice_set xs i w ++ ys ≡ slice_set all j w
set_in_front xs ys all i j w is same within =
    sym (set-append_left xs ys i w within) ∙ ap (λ zs. slice_set zs i w) is ∙ ap (λ k. slice_set all k w) same

got : {T : Type 0} (xs : List T) (i : ℕ) (w : T) → i < length xs → w ≡ slice_index_or xs i w → slice_get xs i ≡ Some w
got [] i w within at = absurd (omega (arith, within))
got (x ∷ xs) zero w within at = ap Some (sym at)
got (x ∷ xs) (suc i) w within at = got xs i w (omega (arith, within)) at

-- what stands among them
pub got_in_front : {T : Type 0} (xs ys all : List T) (i j : ℕ) (w : T) → xs ++ ys ≡ all → i ≡ j → i < length xs
    → w ≡ slice_index_or xs i w → slice_get all j ≡ Some w
got_in_front xs ys all i j w is same within at =
    ap (λ k. slice_get all k) (sym same) ∙ ap (λ zs. slice_get zs i) (sym is) ∙ front_kept xs ys i w (got xs i w within at)
