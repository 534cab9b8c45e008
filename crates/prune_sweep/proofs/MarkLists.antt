-- Lists of marks as a whole.
use Rattle.std.proofs.Common.{◌≡◌, ◌↔◌, ℕ, zero, suc, ◌+◌, ◌<◌, ◌≤◌, Bool, true, false, cond, List, [], ◌∷◌, length, drop, refl, sym, ap, subst, ◌∙◌, arith, get_or, true≢false}
use Rattle.std.specs.Prelude.{replicate, count_by, slice_index_or}
use Rattle.std.specs.List.{Contains}
use Rattle.std.proofs.lemmas.List.Sums.{sum_by-cons}
use Rattle.prune_sweep.specs.declared.mark.Mark.{Mark}
use Rattle.prune_sweep.specs.declared.mark.Mark.TheVariants.{Unseen, Next, Wanted, Shared, Found, Kept}
use Rattle.prune_sweep.specs.Marks.{mark_at, is_found, found_from}

-- a list of which each mark is 'not seen'
pub all_unseen : (marks : List Mark) → ((k : ℕ) → k < length marks → mark_at marks k ≡ Unseen) → marks ≡ replicate (length marks) Unseen
all_unseen [] each = refl
all_unseen (m ∷ marks) each =
    let first : m ≡ Unseen = each 0 (omega arith) in
    let rest : marks ≡ replicate (length marks) Unseen = all_unseen marks (λ k h. each (suc k) (omega (arith, h))) in
    ap (λ x. x ∷ marks) first ∙ ap (λ xs. Unseen ∷ xs) rest

pub replicate-unseen : (n k : ℕ) → mark_at (replicate n Unseen) k ≡ Unseen
replicate-unseen zero k = refl
replicate-unseen (suc n) zero = refl
replicate-unseen (suc n) (suc k) = replicate-unseen n k

pub mark_at-past : (marks : List Mark) (k : ℕ) → length marks ≤ k → mark_at marks k ≡ Unseen
mark_at-past [] k h = refl
mark_at-past (m ∷ marks) zero h = absurd (omega (arith, h))
mark_at-past (m ∷ marks) (suc k) h = mark_at-past marks k (omega (arith, h))

-- an item of a list, and those behind it
pub drop-item : {X : Type 0} (xs : List X) (k : ℕ) (x : X) → k < length xs → x ≡ get_or xs k x → drop k xs ≡ x ∷ drop (k + 1) xs
drop-item [] k x h e = absurd (omega (arith, h))
drop-item (y ∷ xs) zero x h e = ap (λ z. z ∷ xs) (sym e)
drop-item (y ∷ xs) (suc k) x h e =
    let same : suc (k + 1) ≡ suc k + 1 = omega arith in
    drop-item xs k x (omega (arith, h)) e ∙ ap (λ (n : ℕ). x ∷ drop n (y ∷ xs)) same

pub drop-mark : (marks : List Mark) (k : ℕ) → k < length marks → drop k marks ≡ mark_at marks k ∷ drop (k + 1) marks
drop-mark [] k h = absurd (omega (arith, h))
drop-mark (m ∷ marks) zero h = refl
drop-mark (m ∷ marks) (suc k) h =
    let e : suc (k + 1) ≡ suc k + 1 = omega arith in
    drop-mark marks k (omega (arith, h)) ∙ ap (λ (n : ℕ). mark_at marks k ∷ drop n (m ∷ marks)) e

pub drop-all : (marks : List Mark) (k : ℕ) → length marks ≤ k → drop k marks ≡ []
drop-all [] zero h = refl
drop-all [] (suc k) h = refl
drop-all (m ∷ marks) zero h = absurd (omega (arith, h))
drop-all (m ∷ marks) (suc k) h = drop-all marks k (omega (arith, h))

-- ---- blocks that were found

pub found_from-count : (i : ℕ) (marks : List Mark) → length (found_from i marks) ≡ count_by is_found marks
found_from-count i [] = refl
found_from-count i (m ∷ marks) = of (is_found m) (found_from-count (suc i) marks) ∙ sym (sum_by-cons (λ x. cond (is_found x) 1 0) m marks)
  where
    of : (b : Bool) → length (found_from (suc i) marks) ≡ count_by is_found marks
        → length (cond b (i ∷ found_from (suc i) marks) (found_from (suc i) marks)) ≡ cond b 1 0 + count_by is_found marks
    of true e = omega (arith, e)
    of false e = omega (arith, e)

-- from a block on that was found, and from one that was not
pub found_from-here : (marks : List Mark) (k : ℕ) → k < length marks → is_found (mark_at marks k) ≡ true
    → found_from k (drop k marks) ≡ k ∷ found_from (k + 1) (drop (k + 1) marks)
found_from-here marks k h found =
    ap (found_from k) (drop-mark marks k h)
    ∙ ap (λ b. cond b (k ∷ found_from (suc k) (drop (k + 1) marks)) (found_from (suc k) (drop (k + 1) marks))) found
    ∙ ap (λ n. k ∷ found_from n (drop (k + 1) marks)) (omega arith)

pub found_from-next : (marks : List Mark) (k : ℕ) → k < length marks → is_found (mark_at marks k) ≡ false
    → found_from k (drop k marks) ≡ found_from (k + 1) (drop (k + 1) marks)
found_from-next marks k h not =
    ap (found_from k) (drop-mark marks k h)
    ∙ ap (λ b. cond b (k ∷ found_from (suc k) (drop (k + 1) marks)) (found_from (suc k) (drop (k + 1) marks))) not
    ∙ ap (λ n. found_from n (drop (k + 1) marks)) (omega arith)

is_found-true : (m : Mark) → is_found m ≡ true → m ≡ Found
is_found-true Unseen e = absurd (true≢false (sym e))
is_found-true Next e = absurd (true≢false (sym e))
is_found-true (Wanted l) e = absurd (true≢false (sym e))
is_found-true (Shared l) e = absurd (true≢false (sym e))
is_found-true Found e = refl
is_found-true Kept e = absurd (true≢false (sym e))

-- a block of the list is one whose mark is 'found'
record FoundAt (i : ℕ) (marks : List Mark) (n : ℕ) : Type 0 where
  at : ℕ
  is : n ≡ i + at
  found : mark_at marks at ≡ Found

contained : (i : ℕ) (marks : List Mark) (n : ℕ) → Contains (found_from i marks) n → FoundAt i marks n
contained i [] n h = let low : h.0 < 0 = h.1 in absurd (omega (arith, low))
contained i (m ∷ marks) n h = of (is_found m) refl (contained (suc i) marks n) h
  where
    later : FoundAt (suc i) marks n → FoundAt i (m ∷ marks) n
    later x = let e : n ≡ suc i + x.at = x.is in record { at = suc x.at; is = omega (arith, e); found = x.found }

    first : is_found m ≡ true → (Contains (found_from (suc i) marks) n → FoundAt (suc i) marks n) → (k : ℕ) → k < suc (length (found_from (suc i) marks))
        → slice_index_or (i ∷ found_from (suc i) marks) k n ≡ n → FoundAt i (m ∷ marks) n
    first f on zero low e = let is : i ≡ n = e in record { at = 0; is = omega (arith, is); found = is_found-true m f }
    first f on (suc k) low e = later (on (k, omega (arith, low), e))

    of : (b : Bool) → is_found m ≡ b → (Contains (found_from (suc i) marks) n → FoundAt (suc i) marks n)
        → Contains (cond b (i ∷ found_from (suc i) marks) (found_from (suc i) marks)) n → FoundAt i (m ∷ marks) n
    of true f on c = first f on c.0 c.1 c.2
    of false f on c = later (on c)

found_there : (i : ℕ) (marks : List Mark) (k : ℕ) → mark_at marks k ≡ Found → Contains (found_from i marks) (i + k)
found_there i [] k e = absurd cc
found_there i (m ∷ marks) zero e =
    let first : cond (is_found m) (i ∷ found_from (suc i) marks) (found_from (suc i) marks) ≡ i ∷ found_from (suc i) marks =
    ap (λ x. cond (is_found x) (i ∷ found_from (suc i) marks) (found_from (suc i) marks)) e in
    subst (λ xs. Contains xs (i + 0)) (sym first) (0, omega arith, omega arith)
found_there i (m ∷ marks) (suc k) e =
    let same : suc i + k ≡ i + suc k = omega arith in
    of (is_found m) (subst (Contains (found_from (suc i) marks)) same (found_there (suc i) marks k e))
  where
    of : (b : Bool) → Contains (found_from (suc i) marks) (i + suc k) → Contains (cond b (i ∷ found_from (suc i) marks) (found_from (suc i) marks)) (i + suc k)
    of true rest = (suc rest.0, (let low : rest.0 < length (found_from (suc i) marks) = rest.1 in omega (arith, low)), rest.2)
    of false rest = rest

pub found_blocks-has : (marks : List Mark) (n : ℕ) → Contains (found_from 0 marks) n ↔ (mark_at marks n ≡ Found)
found_blocks-has marks n = (
  λ h. let x = contained 0 marks n h in let e : n ≡ 0 + x.at = x.is in let same : x.at ≡ n = omega (arith, e) in ap (mark_at marks) (sym same) ∙ x.found,
  λ e. subst (Contains (found_from 0 marks)) (let f : 0 + n ≡ n = omega arith in f) (found_there 0 marks n e),
)
