-- Where a client is left the blocks that it holds, and holds no more, the blocks are the same, counted upwards too.
use Rattle.std.proofs.Common.{◌≡◌, ℕ, zero, suc, ◌+◌, ◌≤◌, Bool, true, false, List, [], ◌∷◌, take, Some, None, refl, sym, ap, ◌∙◌, arith, slice_get, true≢false, eq-eqb, eqb-true}
use Rattle.block_map.proofs.Counting.{count_by-cons, one}
use Rattle.block_map.specs.States.{held_below, held_count, is_held, state_at}
use Rattle.block_map.specs.declared.states.BlockState.{BlockState}
use Rattle.block_map.specs.declared.states.BlockState.TheVariants.{Free, Held, Kept}
use Rattle.draft_model.specs.Flush.{Placed}
use Rattle.version_chain.specs.Flush.{AreHeld}

-- each block that the client holds in the one map it holds in the other
abbrev AreIn : ℕ → List BlockState → List BlockState → Type 0
AreIn k old new = (n : ℕ) → is_held k (state_at old n) ≡ true → is_held k (state_at new n) ≡ true

-- how many there are
count_is : (k : ℕ) (x : BlockState) (xs : List BlockState) → held_count k (x ∷ xs) ≡ one (is_held k x) + held_count k xs
count_is k x xs = count_by-cons (is_held k) x xs

one_le : (a b : Bool) → (a ≡ true → b ≡ true) → one a ≤ one b
one_le true true to = omega arith
one_le true false to = absurd (true≢false (sym (to refl)))
one_le false b to = omega arith

count_le : (k : ℕ) (old new : List BlockState) → AreIn k old new → held_count k old ≤ held_count k new
count_le k [] new are = omega arith
count_le k (x ∷ xs) [] are =
    let none = one_le (is_held k x) false (λ is. are 0 is) in
    let rest = count_le k xs [] (λ n is. are (suc n) is) in
    let sum = count_is k x xs in
    omega (arith, none, rest, sum)
count_le k (x ∷ xs) (y ∷ ys) are =
    let here = one_le (is_held k x) (is_held k y) (are 0) in
    let rest = count_le k xs ys (λ n is. are (suc n) is) in
    let old = count_is k x xs in
    let new = count_is k y ys in
    omega (arith, here, rest, old, new)

same_one : (a b : Bool) → (a ≡ true → b ≡ true) → one b ≤ one a → b ≡ a
same_one true true to low = refl
same_one true false to low = absurd (true≢false (sym (to refl)))
same_one false true to low = absurd (omega (arith, low))
same_one false false to low = refl

-- so where it holds as many, it holds the same
pub same_blocks : (k : ℕ) (old new : List BlockState) → AreIn k old new → held_count k new ≡ held_count k old → (n : ℕ) → is_held k (state_at new n) ≡ is_held k (state_at old n)
same_blocks k [] [] are count n = refl
same_blocks k [] (y ∷ ys) are count zero = (let sum = count_is k y ys in same_one false (is_held k y) (are 0) (omega (arith, sum, count)))
same_blocks k [] (y ∷ ys) are count (suc n) = (let sum = count_is k y ys in same_blocks k [] ys (λ m is. absurd (true≢false (sym is))) (omega (arith, sum, count)) n)
same_blocks k (x ∷ xs) [] are count zero = (let low = one_le (is_held k x) false (are 0) in sym (same_one false (is_held k x) (λ is. absurd (true≢false (sym is))) low))
same_blocks k (x ∷ xs) [] are count (suc n) = same_blocks k xs [] (λ m is. are (suc m) is) (let sum = count_is k x xs in omega (arith, sum, count)) n
same_blocks k (x ∷ xs) (y ∷ ys) are count zero =
    let rest = count_le k xs ys (λ m is. are (suc m) is) in
    let old = count_is k x xs in
    let new = count_is k y ys in
    same_one (is_held k x) (is_held k y) (are 0) (omega (arith, rest, old, new, count))
same_blocks k (x ∷ xs) (y ∷ ys) are count (suc n) =
    let here = one_le (is_held k x) (is_held k y) (are 0) in
    let rest = count_le k xs ys (λ m is. are (suc m) is) in
    let old = count_is k x xs in
    let new = count_is k y ys in
    same_blocks k xs ys (λ m is. are (suc m) is) (omega (arith, here, rest, old, new, count)) n

-- ---- counted upwards

below_same : (k : ℕ) (old new : List BlockState) → ((n : ℕ) → is_held k (state_at new n) ≡ is_held k (state_at old n)) → (n : ℕ) → held_below k new n ≡ held_below k old n
below_same k old new same zero = refl
below_same k [] [] same (suc n) = refl
below_same k [] (y ∷ ys) same (suc n) =
    let rest = below_same k [] ys (λ m. same (suc m)) n in
    let sum = count_is k y (take n ys) in
    let none : one (is_held k y) ≡ 0 = ap one (same 0) in
    let low = none_below n in
    let all : held_below k (y ∷ ys) (suc n) ≡ 0 = omega (arith, sum, none, rest, low) in
    all
  where
    none_below : (m : ℕ) → held_below k [] m ≡ 0
    none_below zero = refl
    none_below (suc m) = refl
below_same k (x ∷ xs) [] same (suc n) =
    let rest = below_same k xs [] (λ m. same (suc m)) n in
    let sum = count_is k x (take n xs) in
    let none : one (is_held k x) ≡ 0 = ap one (sym (same 0)) in
    let low = none_below n in
    let all : held_below k (x ∷ xs) (suc n) ≡ 0 = omega (arith, sum, none, rest, low) in
    sym all
  where
    none_below : (m : ℕ) → held_below k [] m ≡ 0
    none_below zero = refl
    none_below (suc m) = refl
below_same k (x ∷ xs) (y ∷ ys) same (suc n) =
    let rest = below_same k xs ys (λ m. same (suc m)) n in
    count_is k y (take n ys) ∙ ap (λ b. one b + held_below k ys n) (same 0) ∙ ap (λ m. one (is_held k x) + m) rest ∙ sym (count_is k x (take n xs))

-- ---- the places of a flush

is_held_by : (k : ℕ) (s : BlockState) → s ≡ Held k → is_held k s ≡ true
is_held_by k s e = ap (is_held k) e ∙ eq-eqb k k refl

held_by_is : (k : ℕ) (s : BlockState) → is_held k s ≡ true → s ≡ Held k
held_by_is k Free h = absurd (true≢false (sym h))
held_by_is k (Held by) h = ap Held (eqb-true by k h)
held_by_is k Kept h = absurd (true≢false (sym h))

at_slice : (states : List BlockState) (n : ℕ) (s : BlockState) → slice_get states n ≡ Some s → state_at states n ≡ s
at_slice [] n s e = absurd (let no : None ≡ Some s = e in cc no)
at_slice (x ∷ xs) zero s e = (let same : x ≡ s = cc in same)
at_slice (x ∷ xs) (suc n) s e = at_slice xs n s e

slice_at : (states : List BlockState) (n k : ℕ) → state_at states n ≡ Held k → slice_get states n ≡ Some (Held k)
slice_at [] n k e = absurd (let no : Kept ≡ Held k = e in cc no)
slice_at (x ∷ xs) zero k e = ap Some e
slice_at (x ∷ xs) (suc n) k e = slice_at xs n k e

-- the blocks that it holds, counted upwards, are those that they were
pub held_stay : (k from : ℕ) (old new : List BlockState) (placed : List Placed) → ((n : ℕ) → state_at old n ≡ Held k → state_at new n ≡ Held k) → held_count k new ≡ held_count k old
    → AreHeld old k from placed → AreHeld new k from placed
held_stay k from old new placed are count held i x at =
    let was = held i x at in
    let in_new : AreIn k old new = λ n is. is_held_by k (state_at new n) (are n (held_by_is k (state_at old n) is)) in
    let same = same_blocks k old new in_new count in (
      slice_at new x.block k (are x.block (at_slice old x.block (Held k) was.0)),
      below_same k old new same x.block ∙ was.1,
    )
