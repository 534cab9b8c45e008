-- Which places are no longer ones, and how many.
use Rattle.std.proofs.Common.{◌≡◌, ℕ, suc, ◌+◌, ◌↔◌, inl, inr, nat_eq, not, ◌||◌, Bool, true, false, cond, List, [], ◌∷◌, length, filter, Ok, refl, sym, ap, ◌∙◌, subst, arith, eqb-true, eq-eqb, true≢false, append-nil}
use Rattle.std.specs.List.{list_any}
use Rattle.tree_model.proofs.Paths.{told}
use Rattle.store_model.specs.Tables.{table_rows, files_from}
use Rattle.store_model.specs.Members.{tops_from, tops_linked}
use Rattle.store_model.specs.Found.{LaidStore, laid}
use Rattle.store_model.proofs.PlaceLists.{IsIn, Distinct, in_head, in_tail, in_cons, none_in, not_in, distinct_append}
use Rattle.store_model.proofs.Steps.{Content, blocks_of, InRange, Ran}
use Rattle.store_model.proofs.Locality.{framed_rows, framed_files, framed_tops}
use Rattle.store_model.proofs.Stores.{Parts, parts_of, unlinked}
use Rattle.store_changes.specs.Stands.{IsPlace}
use Rattle.store_changes.specs.Pruning.{freed}

-- ---- no place is found twice

places_distinct : (c : Content) (most : ℕ) (store : LaidStore) (places : List ℕ) → laid c most [] ≡ Ok (store, places) → Distinct places
places_distinct c most store places e =
    let p : Parts c most store places = parts_of c most store places e in
    let N : ℕ = p.root.blocks in
    let r : Ran c c (InRange N) (table_rows (blocks_of c N) p.root) [] p.rows p.in_table = (framed_rows c c N p.root).runs [] p.rows p.in_table p.table in
    let f : Ran c c (InRange N) (files_from (blocks_of c N) 1 p.rows) p.in_table p.files p.in_files = (framed_files c c N 1 p.rows).runs p.in_table p.files p.in_files p.chains in
    let t : Ran c c (InRange N) (tops_linked (blocks_of c N) (tops_from 1 p.files) (unlinked p.files)) p.in_files p.linked places =
    (framed_tops c c N (tops_from 1 p.files) (unlinked p.files)).runs p.in_files p.linked places p.tops in
    let table : Distinct p.in_table = subst Distinct (sym (r.grown ∙ append-nil r.new)) r.distinct in
    let files : Distinct p.in_files = subst Distinct (sym f.grown) (distinct_append f.new p.in_table f.distinct table f.apart) in
    subst Distinct (sym t.grown) (distinct_append t.new p.in_files t.distinct files t.apart)

-- ---- lists

kept_count : (p : ℕ → Bool) (xs : List ℕ) → length (filter (λ n. not (p n)) xs) + length (filter p xs) ≡ length xs
kept_count p [] = refl
kept_count p (x ∷ xs) = of (p x) (kept_count p xs)
  where
    of : (b : Bool) → length (filter (λ n. not (p n)) xs) + length (filter p xs) ≡ length xs
        → length (cond (not b) (x ∷ filter (λ n. not (p n)) xs) (filter (λ n. not (p n)) xs)) + length (cond b (x ∷ filter p xs) (filter p xs)) ≡ suc (length xs)
    of true rest = omega (arith, rest)
    of false rest = omega (arith, rest)

apart_eq : (m n : ℕ) → (m ≡ n → ⊥) → nat_eq m n ≡ false
apart_eq m n h = elim (told (nat_eq m n)) [ inl t ↦ absurd (h (eqb-true m n t)) | inr f ↦ f ]

-- one more number that is not in the list is of no account
same_beside : (y : ℕ) (ys xs : List ℕ) → (IsIn xs y → ⊥) → filter (λ n. list_any (nat_eq n) (y ∷ ys)) xs ≡ filter (λ n. list_any (nat_eq n) ys) xs
same_beside y ys [] off = refl
same_beside y ys (x ∷ xs) off =
    let apart : nat_eq x y ≡ false = apart_eq x y (λ e. off (subst (λ z. IsIn (z ∷ xs) y) (sym e) (in_head y xs))) in
    ap (λ b. cond (b || list_any (nat_eq x) ys) (x ∷ filter (λ n. list_any (nat_eq n) (y ∷ ys)) xs) (filter (λ n. list_any (nat_eq n) (y ∷ ys)) xs)) apart
    ∙ ap (λ l. cond (list_any (nat_eq x) ys) (x ∷ l) l) (same_beside y ys xs (λ h. off (in_tail x y xs h)))

-- and one that is in the list once is one more
one_more : (y : ℕ) (ys xs : List ℕ) → Distinct xs → IsIn xs y → (IsIn ys y → ⊥)
    → length (filter (λ n. list_any (nat_eq n) (y ∷ ys)) xs) ≡ suc (length (filter (λ n. list_any (nat_eq n) ys) xs))
one_more y ys [] d h off = absurd (none_in y h)
one_more y ys (x ∷ xs) d h off = elim (in_cons x y xs h) [ inl e ↦ here (sym e) | inr i ↦ later i (one_more y ys xs d.1 i off) ]
  where
    here : x ≡ y → length (cond (nat_eq x y || list_any (nat_eq x) ys) (x ∷ filter (λ n. list_any (nat_eq n) (y ∷ ys)) xs) (filter (λ n. list_any (nat_eq n) (y ∷ ys)) xs))
        ≡ suc (length (cond (list_any (nat_eq x) ys) (x ∷ filter (λ n. list_any (nat_eq n) ys) xs) (filter (λ n. list_any (nat_eq n) ys) xs)))
    here e =
        let none : list_any (nat_eq x) ys ≡ false = not_in ys x (λ i. off (subst (IsIn ys) e i)) in
        let gone : IsIn xs y → ⊥ = λ i. d.0 (subst (IsIn xs) (sym e) i) in
        ap (λ b. length (cond (b || list_any (nat_eq x) ys) (x ∷ filter (λ n. list_any (nat_eq n) (y ∷ ys)) xs) (filter (λ n. list_any (nat_eq n) (y ∷ ys)) xs))) (eq-eqb x y e)
        ∙ ap (λ l. suc (length l)) (same_beside y ys xs gone)
        ∙ sym (ap (λ b. suc (length (cond b (x ∷ filter (λ n. list_any (nat_eq n) ys) xs) (filter (λ n. list_any (nat_eq n) ys) xs)))) none)

    later : IsIn xs y → length (filter (λ n. list_any (nat_eq n) (y ∷ ys)) xs) ≡ suc (length (filter (λ n. list_any (nat_eq n) ys) xs))
        → length (cond (nat_eq x y || list_any (nat_eq x) ys) (x ∷ filter (λ n. list_any (nat_eq n) (y ∷ ys)) xs) (filter (λ n. list_any (nat_eq n) (y ∷ ys)) xs))
        ≡ suc (length (cond (list_any (nat_eq x) ys) (x ∷ filter (λ n. list_any (nat_eq n) ys) xs) (filter (λ n. list_any (nat_eq n) ys) xs)))
    later i rest =
        let apart : nat_eq x y ≡ false = apart_eq x y (λ e. d.0 (subst (IsIn xs) (sym e) i)) in
        ap (λ b. length (cond (b || list_any (nat_eq x) ys) (x ∷ filter (λ n. list_any (nat_eq n) (y ∷ ys)) xs) (filter (λ n. list_any (nat_eq n) (y ∷ ys)) xs))) apart
        ∙ of (list_any (nat_eq x) ys)
      where
        of : (b : Bool) → length (cond b (x ∷ filter (λ n. list_any (nat_eq n) (y ∷ ys)) xs) (filter (λ n. list_any (nat_eq n) (y ∷ ys)) xs))
            ≡ suc (length (cond b (x ∷ filter (λ n. list_any (nat_eq n) ys) xs) (filter (λ n. list_any (nat_eq n) ys) xs)))
        of true = ap (λ n. suc n) rest
        of false = rest

within_count : (xs ys : List ℕ) → Distinct xs → Distinct ys → ((n : ℕ) → IsIn ys n → IsIn xs n) → length (filter (λ n. list_any (nat_eq n) ys) xs) ≡ length ys
within_count xs [] d e within = none xs
  where
    none : (zs : List ℕ) → length (filter (λ n. false) zs) ≡ 0
    none [] = refl
    none (z ∷ zs) = none zs
within_count xs (y ∷ ys) d e within =
    one_more y ys xs d (within y (in_head y ys)) e.0 ∙ ap (λ n. suc n) (within_count xs ys d e.1 (λ n h. within n (in_tail y n ys h)))

-- what is in a list and has a property
in_kept : (p : ℕ → Bool) (xs : List ℕ) (n : ℕ) → IsIn (filter p xs) n ↔ (IsIn xs n × (p n ≡ true))
in_kept p [] n = (λ h. absurd (none_in n h), λ h. absurd (none_in n h.0))
in_kept p (x ∷ xs) n = of (p x) refl (in_kept p xs n)
  where
    of : (b : Bool) → p x ≡ b → IsIn (filter p xs) n ↔ (IsIn xs n × (p n ≡ true)) → IsIn (cond b (x ∷ filter p xs) (filter p xs)) n ↔ (IsIn (x ∷ xs) n × (p n ≡ true))
    of true is rest = (
      λ h. elim (in_cons x n (filter p xs) h) [ inl e ↦ (subst (λ z. IsIn (z ∷ xs) n) e (in_head n xs), ap p e ∙ is) | inr i ↦ (in_tail x n xs (rest.0 i).0, (rest.0 i).1) ],
      λ h. elim (in_cons x n xs h.0) [ inl e ↦ subst (λ z. IsIn (z ∷ filter p xs) n) e (in_head n (filter p xs)) | inr i ↦ in_tail x n (filter p xs) (rest.1 (i, h.1)) ],
    )
    of false is rest = (
      λ h. (in_tail x n xs (rest.0 h).0, (rest.0 h).1),
      λ h. elim (in_cons x n xs h.0) [ inl e ↦ absurd (true≢false (sym h.1 ∙ ap p e ∙ is)) | inr i ↦ rest.1 (i, h.1) ],
    )

not_told : (b : Bool) → not b ≡ true → b ≡ true → ⊥
not_told true h k = true≢false (sym h)
not_told false h k = true≢false (sym k)

not_made : (b : Bool) → (b ≡ true → ⊥) → not b ≡ true
not_made true h = absurd (h refl)
not_made false h = refl

pub chain_of_places : (c d : Content) (most : ℕ) (old new : LaidStore) (places order : List ℕ)
    → laid c most [] ≡ Ok (old, places) → laid d most [] ≡ Ok (new, order) → ((n : ℕ) → IsPlace order n → IsPlace places n)
    → ((n : ℕ) → IsPlace (freed places order) n ↔ (IsPlace places n × (IsPlace order n → ⊥)))
    × (length (freed places order) + length order ≡ length places)
chain_of_places c d most old new places order e f within =
    let split : length (freed places order) + length (filter (λ n. list_any (nat_eq n) order) places) ≡ length places =
    kept_count (λ n. list_any (nat_eq n) order) places in
    let many : length (filter (λ n. list_any (nat_eq n) order) places) ≡ length order =
    within_count places order (places_distinct c most old places e) (places_distinct d most new order f) within in (
      λ n. (
        λ h. (let k = (in_kept (λ m. not (list_any (nat_eq m) order)) places n).0 h in (k.0, not_told (list_any (nat_eq n) order) k.1)),
        λ h. (in_kept (λ m. not (list_any (nat_eq m) order)) places n).1 (h.0, not_made (list_any (nat_eq n) order) h.1),
      ),
      omega (arith, split, many),
    )
