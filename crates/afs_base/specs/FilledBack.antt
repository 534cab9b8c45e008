use Rattle.std.specs.Prelude.{◌≡◌, ℕ, ◌-◌, ◌≤◌, List, ◌++◌, length, take, replicate}
use Rattle.std.proofs.Common.{ap, subst, sym, ◌∙◌, length-take-le, take-append-drop}
use Rattle.afs_base.specs.Filled.{filled, IsFilled}

-- Two proofs that `inverse_ok` of the types with such an array cites: their items give the array back. What a type cites stands in `specs/`.

-- as many items are in use as the length says
pub length-used : (size len : ℕ) (places : List ℕ) → IsFilled size len places → length (take len places) ≡ len
length-used size len places h = let P : ℕ → Type 0 = λ n. len ≤ n in length-take-le len places (subst P (sym h.whole) h.short)

-- the items give the array back
pub filled-take : (size len : ℕ) (places : List ℕ) → IsFilled size len places → filled size (take len places) ≡ places
unfolding filled
filled-take size len places h =
    ap (λ n. take len places ++ replicate (size - n) 0) (length-used size len places h)
    ∙ ap (λ (xs : List ℕ). take len places ++ xs) (sym h.zeros)
    ∙ take-append-drop len places
