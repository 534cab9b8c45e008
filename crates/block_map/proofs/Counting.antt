-- Counts over lists of block states.
use Rattle.std.proofs.Common.{◌≡◌, ℕ, ◌+◌, ◌≤◌, Bool, false, ◌||◌, cond, suc, List, [], ◌∷◌, length, take, refl, sym, ◌∙◌, ap, subst, arith}
use Rattle.std.specs.List.{count_by}
use Rattle.std.proofs.lemmas.List.{take-take}
use Rattle.std.proofs.lemmas.List.Sums.{sum_by-take-le, sum_by-cons}
use Rattle.block_map.specs.declared.states.BlockState.{BlockState}
use Rattle.block_map.specs.declared.states.BlockState.TheVariants.{Free, Held, Kept}
use Rattle.block_map.specs.States.{is_free, is_held, state_at, free_count, held_count}

-- 1 for a test that passes
abbrev pub one : Bool → ℕ
one b = cond b 1 0

-- what stands below a lower place is no more
pub count_by-take-mono : {X : Type 0} (p : X → Bool) (xs : List X) (i j : ℕ) → i ≤ j → count_by p (take i xs) ≤ count_by p (take j xs)
count_by-take-mono p xs i j h =
    let P : List _ → Type 0 = λ ys. count_by p ys ≤ count_by p (take j xs) in
    subst P (take-take i j xs h) (sum_by-take-le (λ x. one (p x)) (take j xs) i)

-- a first element and the rest
pub count_by-cons : {X : Type 0} (p : X → Bool) (x : X) (xs : List X) → count_by p (x ∷ xs) ≡ one (p x) + count_by p xs
count_by-cons p x xs = sum_by-cons (λ y. one (p y)) x xs

-- tests that agree place by place count the same
pub count_by-pointwise : (p q : BlockState → Bool) (xs ys : List BlockState) → length xs ≡ length ys
    → ((k : ℕ) → p (state_at xs k) ≡ q (state_at ys k)) → count_by p xs ≡ count_by q ys
count_by-pointwise p q [] [] len same = refl
count_by-pointwise p q [] (y ∷ ys) len same = absurd (omega arith)
count_by-pointwise p q (x ∷ xs) [] len same = absurd (omega arith)
count_by-pointwise p q (x ∷ xs) (y ∷ ys) len same =
    count_by-cons p x xs
    ∙ ap (λ b. one b + count_by p xs) (same 0)
    ∙ ap (λ n. one (q y) + n) (count_by-pointwise p q xs ys (omega arith) (λ k. same (suc k)))
    ∙ sym (count_by-cons q y ys)

-- a test that nothing passes counts nothing
pub count_by-none : {X : Type 0} (xs : List X) → count_by (λ (_ : X). false) xs ≡ 0
count_by-none [] = refl
count_by-none {X} (x ∷ xs) = count_by-cons (λ (_ : X). false) x xs ∙ ap (λ n. 0 + n) (count_by-none xs)

-- a block is never both free and held
either : (client : ℕ) (s : BlockState) → one (is_free s || is_held client s) ≡ one (is_free s) + one (is_held client s)
either client Free = refl
either client (Held by) = sym (omega arith)
either client Kept = refl

regroup : (all free held a f h more rest rest' : ℕ) → all ≡ a + more → free ≡ f + rest → held ≡ h + rest'
    → a ≡ f + h → more ≡ rest + rest' → all ≡ free + held
regroup all free held a f h more rest rest' p q r s t = omega arith

-- what is free or held is counted in two parts
pub count_by-either : (client : ℕ) (xs : List BlockState)
    → count_by (λ s. is_free s || is_held client s) xs ≡ free_count xs + held_count client xs
count_by-either client [] = refl
count_by-either client (x ∷ xs) =
    let both = count_by-cons (λ s. is_free s || is_held client s) x xs in
    let free = count_by-cons is_free x xs in
    let held = count_by-cons (is_held client) x xs in
    regroup _ _ _ _ _ _ _ _ _ both free held (either client x) (count_by-either client xs)
