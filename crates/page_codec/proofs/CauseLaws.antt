-- Where no cause applies, every test is false.
use Rattle.std.proofs.Common.{◌≡◌, ℕ, ◌≤◌, ◌<◌, Bool, true, false, not, cond, eqb, ltb, leb, List, [], ◌∷◌, refl, ap, ◌∙◌, ◌||◌, ◌&&◌, ◌++◌, arith}
use Rattle.std.proofs.lemmas.Bool.{ne_eqb, eqb-false, le-ltb, leb-true}
use Rattle.std.specs.Prelude.{Option, Some, None}
use Rattle.page_codec.specs.declared.why.Why.{Why}
use Rattle.page_codec.specs.Causes.{Cause, first_cause}

-- no test is true
abbrev pub Clear : List Cause → Type 0
Clear [] = Unit {0}
Clear (c ∷ cs) = (c.0 ≡ false) × Clear cs

test_none : (b : Bool) (why : Why) (rest : Option Why) → cond b (Some why) rest ≡ None → (b ≡ false) × (rest ≡ None)
test_none true why rest e = absurd cc
test_none false why rest e = (refl, e)

pub none_clear : (cs : List Cause) → first_cause cs ≡ None → Clear cs
none_clear [] e = tt
none_clear (c ∷ cs) e = let both = test_none c.0 c.1 (first_cause cs) e in (both.0, none_clear cs both.1)

test_passed : (b : Bool) (why : Why) (rest : Option Why) → b ≡ false → rest ≡ None → cond b (Some why) rest ≡ None
test_passed true why rest e f = absurd cc
test_passed false why rest e f = f

pub clear_none : (cs : List Cause) → Clear cs → first_cause cs ≡ None
clear_none [] c = refl
clear_none (c ∷ cs) clear = test_passed c.0 c.1 (first_cause cs) clear.0 (clear_none cs clear.1)

-- neither of two tests is true
pub neither : (a b : Bool) → (a || b) ≡ false → (a ≡ false) × (b ≡ false)
neither true b e = absurd cc
neither false b e = (refl, e)

pub both_false : (a b : Bool) → a ≡ false → b ≡ false → (a || b) ≡ false
both_false true b e f = absurd cc
both_false false b e f = f

pub eqb_same : (n : ℕ) → eqb n n ≡ true
eqb_same n = by (eqb n n) refl
  where
    by : (b : Bool) → eqb n n ≡ b → eqb n n ≡ true
    by true e = e
    by false e = absurd (eqb-false n n e refl)

-- tests that numbers pass
pub passes_same : (m n : ℕ) → m ≡ n → not (eqb m n) ≡ false
passes_same m n e = ap (λ (k : ℕ). not (eqb k n)) e ∙ ap not (eqb_same n)

pub passes_positive : (n : ℕ) → 1 ≤ n → eqb n 0 ≡ false
passes_positive n h = ne_eqb n 0 (λ e. omega arith)

pub passes_most : (n m : ℕ) → m ≤ n → ltb n m ≡ false
passes_most n m h = le-ltb _ _ h

pub passes_below : (n m : ℕ) → m < n → leb n m ≡ false
passes_below n m h = by (leb n m) refl
  where
    by : (b : Bool) → leb n m ≡ b → leb n m ≡ false
    by true e = let le : n ≤ m = leb-true n m e in absurd (omega arith)
    by false e = e

-- a test that is tried in one case alone
pub passes_if : (a b : Bool) → (a ≡ true → b ≡ false) → (a && b) ≡ false
passes_if true b h = h refl
passes_if false b h = refl

-- causes behind causes
pub first_cause-append-none : (xs ys : List Cause) → first_cause xs ≡ None → first_cause (xs ++ ys) ≡ first_cause ys
first_cause-append-none [] ys e = refl
first_cause-append-none (c ∷ xs) ys e = let both = test_none c.0 c.1 (first_cause xs) e in rw both.0 (first_cause-append-none xs ys both.1)

some_stays : (b : Bool) (w why : Why) (r s : Option Why) → (r ≡ Some why → s ≡ Some why) → cond b (Some w) r ≡ Some why → cond b (Some w) s ≡ Some why
some_stays true w why r s h e = e
some_stays false w why r s h e = h e

pub first_cause-append-some : (xs ys : List Cause) (why : Why) → first_cause xs ≡ Some why → first_cause (xs ++ ys) ≡ Some why
first_cause-append-some [] ys why e = absurd cc
first_cause-append-some (c ∷ xs) ys why e = some_stays c.0 c.1 why (first_cause xs) (first_cause (xs ++ ys)) (λ h. first_cause-append-some xs ys why h) e
