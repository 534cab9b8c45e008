-- The locks of the others, where a client gives up its own.
use Rattle.std.proofs.Common.{◌≡◌, ◌≢◌, ℕ, Bool, true, false, ◌&&◌, ◌||◌, List, [], ◌∷◌, refl, sym, ap, ◌∙◌, eqb-true}
use Rattle.std.specs.List.{list_any}
use Rattle.std.specs.Prelude.{cond, not}
use Rattle.super_files.specs.Locks.{is_of, is_on, without}
use Rattle.super_files.specs.declared.locks.Lock.{Lock}
use Rattle.session.specs.Answers.{locks_left}

abbrev pub is_his : ℕ → ℕ → Lock → Bool
is_his k object lock = is_of k lock && is_on object lock

-- none is its own then
pub none_without : (k object : ℕ) (locks : List Lock) → list_any (is_his k object) (without k locks) ≡ false
none_without k object [] = refl
none_without k object (x ∷ xs) = by (none_without k object xs) (is_of k x) refl
  where
    by : list_any (is_his k object) (without k xs) ≡ false → (b : Bool) → is_of k x ≡ b → list_any (is_his k object) (without k (x ∷ xs)) ≡ false
    by rest true is = ap (λ b. list_any (is_his k object) (cond (not b) (x ∷ without k xs) (without k xs))) is ∙ rest
    by rest false is =
        ap (λ b. list_any (is_his k object) (cond (not b) (x ∷ without k xs) (without k xs))) is
        ∙ ap (λ b. (b && is_on object x) || list_any (is_his k object) (without k xs)) is ∙ rest

-- and those of another are those that they were
pub others_without : (k j object : ℕ) (locks : List Lock) → j ≢ k → list_any (is_his j object) (without k locks) ≡ list_any (is_his j object) locks
others_without k j object [] ne = refl
others_without k j object (x ∷ xs) ne = by (others_without k j object xs ne) (is_of k x) refl
  where
    off : is_of k x ≡ true → is_of j x ≡ false
    off is = none (is_of j x) refl
      where
        none : (b : Bool) → is_of j x ≡ b → is_of j x ≡ false
        none true e = absurd (ne (sym (eqb-true x.client j e) ∙ eqb-true x.client k is))
        none false e = e

    by : list_any (is_his j object) (without k xs) ≡ list_any (is_his j object) xs → (b : Bool) → is_of k x ≡ b
        → list_any (is_his j object) (without k (x ∷ xs)) ≡ list_any (is_his j object) (x ∷ xs)
    by rest true is =
        ap (λ b. list_any (is_his j object) (cond (not b) (x ∷ without k xs) (without k xs))) is
        ∙ rest ∙ sym (ap (λ b. (b && is_on object x) || list_any (is_his j object) xs) (off is))
    by rest false is =
        ap (λ b. list_any (is_his j object) (cond (not b) (x ∷ without k xs) (without k xs))) is
        ∙ ap (λ b. is_his j object x || b) rest

-- what is given up twice is given up once
pub without_twice : (k : ℕ) (locks : List Lock) → without k (without k locks) ≡ without k locks
without_twice k [] = refl
without_twice k (x ∷ xs) = by (without_twice k xs) (is_of k x) refl
  where
    by : without k (without k xs) ≡ without k xs → (b : Bool) → is_of k x ≡ b → without k (without k (x ∷ xs)) ≡ without k (x ∷ xs)
    by rest true is =
        ap (λ b. without k (cond (not b) (x ∷ without k xs) (without k xs))) is ∙ rest
        ∙ sym (ap (λ b. cond (not b) (x ∷ without k xs) (without k xs)) is)
    by rest false is =
        ap (λ b. without k (cond (not b) (x ∷ without k xs) (without k xs))) is
        ∙ ap (λ b. cond (not b) (x ∷ without k (without k xs)) (without k (without k xs))) is
        ∙ ap (λ ys. x ∷ ys) rest
        ∙ sym (ap (λ b. cond (not b) (x ∷ without k xs) (without k xs)) is)

pub left_twice : (k : ℕ) (locks : List Lock) (a b : Bool) → locks_left k (locks_left k locks a) b ≡ locks_left k locks (a || b)
left_twice k locks true true = without_twice k locks
left_twice k locks true false = refl
left_twice k locks false b = refl
