-- Where a binary search by root and path ends.
use Rattle.std.proofs.Common.{◌≡◌, ℕ, zero, suc, ◌+◌, ◌<◌, ◌≤◌, false, List, [], ◌∷◌, length, map, get_or, ◌⊎◌, inl, inr, sym, ap, ◌∙◌, Some, None, option_map, add-one, arith}
use Rattle.std.proofs.lemmas.Option.{slice_get-map, slice_get_cases}
use Rattle.std.proofs.lemmas.List.Sorted.{searchable_from_sorted}
use Rattle.std.specs.Prelude.{slice_get, Result, Ok, Err, IfOk, IfErr}
use Rattle.std.specs.List.Sorted.{IsStrictlySortedBy, IsBinarySearchResult, IsSearchInRange, IsSortedBy}
use Rattle.std.specs.Ordering.{is_lt, ordering_reverse}
use Rattle.std.specs.declared.cmp.Ordering.TheVariants.{Less, Greater}
use Rattle.afs_base.specs.Path.{path_cmp}
use Rattle.tree_model.proofs.Paths.{path_total, path_only}
use Rattle.pool_draft.specs.declared.row.Row.{Row}
use Rattle.pool_draft.specs.Rows.{key_of}
use Rattle.pool_draft.specs.Seeking.{AreBefore, IsBehind, IsFoundAt, IsGapAt}

pub found_place : (rows : List Row) (key : List ℕ) (r : Result ℕ ℕ) → IsSearchInRange r (length rows)
    → IsBinarySearchResult (λ y. path_cmp (key_of y) key) rows r → IfOk r (λ k. (k < length rows) × IsFoundAt (map key_of rows) key k)
found_place rows key (Err k) bound result = tt
found_place rows key (Ok k) bound result = (bound, by (slice_get_cases rows k).1)
  where
    by : ((x : Row) × (k < length rows) × (slice_get rows k ≡ Some x) × (get_or rows k x ≡ x)) ⊎ ((length rows ≤ k) × (slice_get rows k ≡ None))
        → slice_get (map key_of rows) k ≡ Some key
    by (inl h) =
        slice_get-map key_of rows k ∙ ap (option_map key_of) h.2
        ∙ ap (λ (p : List ℕ). Some p) (path_only (key_of h.0) key (ap (λ (y : Row). path_cmp (key_of y) key) (sym h.3) ∙ result h.0))
    by (inr h) = absurd (omega (arith, bound, h.0))

sorted_steps : (rows : List Row) → IsStrictlySortedBy path_cmp (map key_of rows) → (k : ℕ) (d : Row) → k + 1 < length rows
    → is_lt (path_cmp (key_of (get_or rows (suc k) d)) (key_of (get_or rows k d))) ≡ false
unfolding IsStrictlySortedBy
sorted_steps [] order k d h = absurd (omega arith)
sorted_steps (r ∷ []) order k d h = absurd (omega arith)
sorted_steps (r ∷ s ∷ rows) order zero d h = ap is_lt (path_total.antisymm (key_of s) (key_of r) ∙ ap ordering_reverse order.0.0)
sorted_steps (r ∷ s ∷ rows) order (suc k) d h = sorted_steps (s ∷ rows) order.1 k d (omega arith)

before_all : (key : List ℕ) (rows : List Row) (i : ℕ) → i ≤ length rows → ((k : ℕ) (d : Row) → k < i → path_cmp (key_of (get_or rows k d)) key ≡ Less)
    → AreBefore key (map key_of rows) i
before_all key [] zero h all = tt
before_all key [] (suc i) h all = absurd (omega arith)
before_all key (r ∷ rows) zero h all = tt
before_all key (r ∷ rows) (suc i) h all = (all 0 r (omega arith), before_all key rows i (omega arith) (λ k d less. all (suc k) d (omega arith)))

behind_at : (key : List ℕ) (rows : List Row) (i : ℕ) → ((k : ℕ) (d : Row) → i ≤ k → k < length rows → path_cmp (key_of (get_or rows k d)) key ≡ Greater)
    → IsBehind key (map key_of rows) i
behind_at key [] i all = tt
behind_at key (r ∷ rows) zero all = path_total.antisymm key (key_of r) ∙ ap ordering_reverse (all 0 r (omega arith) (omega arith))
behind_at key (r ∷ rows) (suc i) all = behind_at key rows i (λ k d le less. all (suc k) d (omega arith) (omega arith))

pub gap_place : (rows : List Row) (key : List ℕ) (r : Result ℕ ℕ) → IsStrictlySortedBy path_cmp (map key_of rows) → IsSearchInRange r (length rows)
    → IsBinarySearchResult (λ y. path_cmp (key_of y) key) rows r → IfErr r (λ k. (k ≤ length rows) × IsGapAt (map key_of rows) key k)
gap_place rows key (Ok k) order bound result = tt
gap_place rows key (Err k) order bound result =
    let sorted : IsSortedBy (λ a b. is_lt (path_cmp (key_of a) (key_of b))) rows =
    λ i d low high. ap (λ n. is_lt (path_cmp (key_of (get_or rows n d)) (key_of (get_or rows i d)))) (add-one i) ∙ sorted_steps rows order i d high in
    let point = result (searchable_from_sorted path_total key_of rows key sorted) in
    (bound, (before_all key rows k bound (λ i d less. point.0 i d (omega arith) less), behind_at key rows k (λ i d le less. point.1 i d le less)))
