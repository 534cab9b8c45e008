-- The mask of the slots that have a page below them.
use Rattle.std.proofs.Common.{◌≡◌, ℕ, zero, suc, ◌+◌, ◌^◌, ◌<◌, ◌≤◌, Bool, true, false, cond, List, [], ◌∷◌, ◌++◌, refl, sym, subst, arith, pow-suc, pow_mono, lit<}
use Rattle.std.proofs.lemmas.List.Sums.{sum_by_push}
use Rattle.tree_model.specs.Trees.{Tree, has, bit_of, child_bits, numbers_below}

pub bits_none : (t : Tree) (p : List ℕ) → child_bits t p (numbers_below 0) ≡ 0
unfolding numbers_below
bits_none t p = refl

pub bits_more : (t : Tree) (p : List ℕ) (n : ℕ) → child_bits t p (numbers_below (suc n)) ≡ child_bits t p (numbers_below n) + bit_of t p n
unfolding numbers_below
bits_more t p n = sum_by_push (bit_of t p) (numbers_below n) n

pub bit_le : (t : Tree) (p : List ℕ) (n : ℕ) → bit_of t p n ≤ 2 ^ n
bit_le t p n = by (has t (p ++ n ∷ []))
  where
    by : (b : Bool) → cond b (2 ^ n) 0 ≤ 2 ^ n
    by true = omega arith
    by false = omega arith

-- the bits of the slots below n are below 2 to the n
pub bits_lt : (t : Tree) (p : List ℕ) (n : ℕ) → child_bits t p (numbers_below n) < 2 ^ n
bits_lt t p zero = let F : ℕ → Type 0 = λ m. m < 1 in subst F (sym (bits_none t p)) (lit< tt)
bits_lt t p (suc n) = omega (arith, bits_lt t p n, bit_le t p n, bits_more t p n, pow-suc 2 n)

-- with one slot more they still fit sixteen bits
pub bits_fit : (t : Tree) (p : List ℕ) (n : ℕ) → n < 16 → child_bits t p (numbers_below n) + bit_of t p n < 65536
bits_fit t p n h =
    let below : child_bits t p (numbers_below (suc n)) < 2 ^ suc n = bits_lt t p (suc n) in
    let most : 2 ^ suc n ≤ 2 ^ 16 = pow_mono {i = suc n} {j = 16} (omega arith) in
    omega (arith, bits_more t p n)
