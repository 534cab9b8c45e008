-- Runs of which nothing is out, and the leases of them.
use Rattle.std.proofs.Common.{◌≡◌, ℕ, zero, suc, ◌+◌, ◌-◌, false, not, List, [], ◌∷◌, ◌++◌, length, replicate, count_by, refl, sym, ap, ◌∙◌, ◌⊎◌, inl, inr, Some, arith}
use Rattle.std.specs.Prelude.{slice_get}
use Rattle.std.proofs.lemmas.Grind.{common_steps}
use Rattle.frame_pool.specs.Leasing.{Leased, unused_run, AreUnused}

pub none_out : (n : ℕ) → count_by not (replicate n false) ≡ n
none_out n = grind (arith, common_steps)

pub front_kept : {T : Type 0} (xs ys : List T) (i : ℕ) (l : T) → slice_get xs i ≡ Some l → slice_get (xs ++ ys) i ≡ Some l
front_kept [] ys i l at = absurd (cc at)
front_kept (x ∷ xs) ys zero l at = at
front_kept (x ∷ xs) ys (suc i) l at = front_kept xs ys i l at

last_is : {T : Type 0} (xs : List T) (x : T) → slice_get (xs ++ x ∷ []) (length xs) ≡ Some x
last_is [] x = refl
last_is (y ∷ xs) x = last_is xs x

-- what stands in a list with one element more
one_more : {T : Type 0} (xs : List T) (x : T) (i : ℕ) (l : T) → slice_get (xs ++ x ∷ []) i ≡ Some l
    → (slice_get xs i ≡ Some l) ⊎ ((i ≡ length xs) × (x ≡ l))
one_more [] x zero l at = inr (refl, cc at)
one_more [] x (suc i) l at = absurd (cc at)
one_more (y ∷ xs) x zero l at = inl at
one_more (y ∷ xs) x (suc i) l at = elim (one_more xs x i l at) [ inl h ↦ inl h | inr h ↦ inr (ap suc h.0, h.1) ]

pub unused_front : {T R : Type 0} (run_of : T → Leased) (rows_of : T → List R) (clients : ℕ) (all xs ys : List T) → all ≡ xs ++ ys
    → AreUnused run_of rows_of clients all → AreUnused run_of rows_of clients xs
unused_front run_of rows_of clients all xs ys is unused i l at =
    unused i l (ap (λ zs. slice_get zs i) is ∙ front_kept xs ys i l at)

pub unused_last : {T R : Type 0} (run_of : T → Leased) (rows_of : T → List R) (clients : ℕ) (all xs : List T) (x : T) → all ≡ xs ++ x ∷ []
    → AreUnused run_of rows_of clients all → (run_of x ≡ unused_run (clients - (length xs + 1))) × (rows_of x ≡ [])
unused_last run_of rows_of clients all xs x is unused =
    unused (length xs) x (ap (λ ys. slice_get ys (length xs)) is ∙ last_is xs x)

pub unused_more : {T R : Type 0} (run_of : T → Leased) (rows_of : T → List R) (clients : ℕ) (xs : List T) (x : T)
    → run_of x ≡ unused_run (clients - (length xs + 1)) → rows_of x ≡ []
    → AreUnused run_of rows_of clients xs → (all : List T) → all ≡ xs ++ x ∷ [] → AreUnused run_of rows_of clients all
unused_more run_of rows_of clients xs x run rows unused all is i l at = by (one_more xs x i l (ap (λ zs. slice_get zs i) (sym is) ∙ at))
  where
    by : (slice_get xs i ≡ Some l) ⊎ ((i ≡ length xs) × (x ≡ l)) → (run_of l ≡ unused_run (clients - (i + 1))) × (rows_of l ≡ [])
    by (inl h) = unused i l h
    by (inr h) = (ap run_of (sym h.1) ∙ run ∙ ap (λ n. unused_run (clients - (n + 1))) (sym h.0), ap rows_of (sym h.1) ∙ rows)
