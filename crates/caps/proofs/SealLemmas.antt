-- The check of a capability has six bytes.
use Rattle.std.proofs.Common.{◌≡◌, ℕ, List, [], ◌∷◌, length, get_or, refl, arith}
use Rattle.std.proofs.lemmas.List.{length-take-le}
use Rattle.sha2.specs.Sha256.{sha256}
use Rattle.sha2.proofs.Facts256.{length-sha256}
use Rattle.caps.specs.Grant.{SealValue, sealed_bytes, check_of}

pub length-check_of : (seal : SealValue) (object rights : ℕ) → length (check_of seal object rights) ≡ 6
unfolding check_of
length-check_of seal object rights =
    length-take-le 6 (sha256 (sealed_bytes seal object rights)) (omega (arith, length-sha256 (sealed_bytes seal object rights)))

-- six elements one by one
pub six_again : (xs : List ℕ) → length xs ≡ 6
    → get_or xs 0 0 ∷ get_or xs 1 0 ∷ get_or xs 2 0 ∷ get_or xs 3 0 ∷ get_or xs 4 0 ∷ get_or xs 5 0 ∷ [] ≡ xs
six_again (a ∷ b ∷ c ∷ d ∷ e ∷ f ∷ []) h = refl
six_again [] h = absurd (omega arith)
six_again (a ∷ []) h = absurd (omega arith)
six_again (a ∷ b ∷ []) h = absurd (omega arith)
six_again (a ∷ b ∷ c ∷ []) h = absurd (omega arith)
six_again (a ∷ b ∷ c ∷ d ∷ []) h = absurd (omega arith)
six_again (a ∷ b ∷ c ∷ d ∷ e ∷ []) h = absurd (omega arith)
six_again (a ∷ b ∷ c ∷ d ∷ e ∷ f ∷ g ∷ more) h = absurd (omega arith)
