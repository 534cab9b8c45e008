-- The least slot that passes a test.
use Rattle.std.proofs.Common.{◌≡◌, ℕ, zero, suc, ◌<◌, Bool, true, false, cond, nat_eq, [], ◌∷◌, ◌⊎◌, inl, inr, refl, sym, ap, subst, ◌∙◌, Some, None, is_some, arith, eqb-true, true≢false}
use Rattle.std.specs.Option.{option_or}
use Rattle.std.specs.List.{find}
use Rattle.std.proofs.lemmas.Bool.{eqb-false}
use Rattle.std.proofs.lemmas.List.Folds.{find-append}
use Rattle.tree_model.specs.Trees.{numbers_below}
use Rattle.tree_model.proofs.Paths.{told}

last_of : (p : ℕ → Bool) (n : ℕ) (b : Bool) → p n ≡ b → find p (n ∷ []) ≡ cond b (Some n) None
last_of p n true e = ap (λ b. cond b (Some n) None) e
last_of p n false e = ap (λ b. cond b (Some n) None) e

pub find_none : (p : ℕ → Bool) (n : ℕ) → ((j : ℕ) → j < n → p j ≡ false) → find p (numbers_below n) ≡ None
unfolding numbers_below
find_none p zero h = refl
find_none p (suc n) h =
    find-append p (numbers_below n) (n ∷ [])
    ∙ (λ i. option_or (find_none p n (λ j g. h j (omega arith)) i) (last_of p n false (h n (omega arith)) i))

pub find_first : (p : ℕ → Bool) (n k : ℕ) → k < n → p k ≡ true → ((j : ℕ) → j < k → p j ≡ false) → find p (numbers_below n) ≡ Some k
unfolding numbers_below
find_first p zero k h e none = absurd (omega arith)
find_first p (suc n) k h e none = find-append p (numbers_below n) (n ∷ []) ∙ by (told (nat_eq k n)) (λ g. find_first p n k g e none)
  where
    by : (nat_eq k n ≡ true) ⊎ (nat_eq k n ≡ false) → (k < n → find p (numbers_below n) ≡ Some k) → option_or (find p (numbers_below n)) (find p (n ∷ [])) ≡ Some k
    by (inl g) rest =
        let is : k ≡ n = eqb-true k n g in
        let P : ℕ → Type 0 = λ m. (j : ℕ) → j < m → p j ≡ false in
        (λ i. option_or (find_none p n (subst P is none) i) (last_of p n true (ap p (sym is) ∙ e) i)) ∙ ap Some (sym is)
    by (inr g) rest = ap (λ o. option_or o (find p (n ∷ []))) (rest (omega (arith, eqb-false k n g)))

-- what is found is the least that passes
pub record IsFirst (p : ℕ → Bool) (n k : ℕ) : Type 0 where
  pub below : k < n
  pub passes : p k ≡ true
  pub least : (j : ℕ) → j < k → p j ≡ false

-- either nothing below n passes, or there is a first one
pub first_told : (p : ℕ → Bool) (n : ℕ) → ((j : ℕ) → j < n → p j ≡ false) ⊎ ((k : ℕ) × IsFirst p n k)
first_told p zero = inl (λ j h. absurd (omega arith))
first_told p (suc n) = elim (first_told p n) [
  | inr x ↦ inr (x.0, record { below = let low = x.1.below in omega arith; passes = x.1.passes; least = x.1.least })
  | inl none ↦ elim (told (p n)) [
    | inl e ↦ inr (n, record { below = omega arith; passes = e; least = none })
    | inr e ↦ inl (λ j h. elim (told (nat_eq j n)) [
      | inl g ↦ ap p (eqb-true j n g) ∙ e
      | inr g ↦ none j (omega (arith, eqb-false j n g))
    ])
  ]
]

pub found_first : (p : ℕ → Bool) (n k : ℕ) → find p (numbers_below n) ≡ Some k → IsFirst p n k
found_first p n k h = elim (first_told p n) [
  | inl none ↦ absurd (true≢false (ap is_some (sym h ∙ find_none p n none)))
  | inr x ↦ let F : ℕ → Type 0 = IsFirst p n in subst F (number_is (sym (find_first p n x.0 x.1.below x.1.passes x.1.least) ∙ h)) x.1
]
  where
    number_is : {x y : ℕ} → Some x ≡ Some y → x ≡ y
    number_is e = cc

pub found_none : (p : ℕ → Bool) (n : ℕ) → find p (numbers_below n) ≡ None → (j : ℕ) → j < n → p j ≡ false
found_none p n h = elim (first_told p n) [
  | inl none ↦ none
  | inr x ↦ absurd (true≢false (ap is_some (sym (find_first p n x.0 x.1.below x.1.passes x.1.least) ∙ h)))
]
