-- Two trees with pages at the same paths have the same list of paths.
use Rattle.std.proofs.Common.{◌≡◌, ℕ, Bool, true, false, ◌&&◌, cond, T, List, [], ◌∷◌, refl, sym, ap, subst, ◌∙◌, map, Option, Some, None, is_some}
use Rattle.std.specs.Ordering.{eq_by_cmp, is_lt}
use Rattle.std.specs.FinMap as finite
use Rattle.std.specs.FinMap.Entries.{find, is_sorted, below_all, same_entries}
use Rattle.afs_base.specs.Path.{path_cmp}
use Rattle.tree_model.specs.Trees.{Tree, has}
use Rattle.tree_model.proofs.Paths.{path_total, path_only}

abbrev pub Entry : Type 0
Entry = List ℕ × List ℕ

abbrev pub Key : Type 0
Key = List ℕ × Unit {0}

-- an entry without its data
abbrev pub bare_of : Entry → Key
bare_of e = (e.0, tt)

abbrev pub bare : List Entry → List Key
bare entries = map bare_of entries

abbrev pub marked : Bool → Option (Unit {0})
marked b = cond b (Some tt) None

pub bare_below : (p : List ℕ) (es : List Entry) → below_all path_cmp p (bare es) ≡ below_all path_cmp p es
bare_below p [] = refl
bare_below p (e ∷ es) = ap (λ b. is_lt (path_cmp p e.0) && b) (bare_below p es)

pub bare_sorted : (es : List Entry) → is_sorted path_cmp (bare es) ≡ is_sorted path_cmp es
bare_sorted [] = refl
bare_sorted (e ∷ es) = λ i. bare_below e.0 es i && bare_sorted es i

pub bare_found : (q : List ℕ) (es : List Entry) → find path_cmp q (bare es) ≡ marked (is_some (find path_cmp q es))
bare_found q [] = refl
bare_found q (e ∷ es) = by (eq_by_cmp path_cmp q e.0) (bare_found q es)
  where
    by : (b : Bool) → find path_cmp q (bare es) ≡ marked (is_some (find path_cmp q es))
        → cond b (Some tt) (find path_cmp q (bare es)) ≡ marked (is_some (cond b (Some e.1) (find path_cmp q es)))
    by true rest = refl
    by false rest = rest

pub bare_keys : (es : List Entry) → map (λ (e : Key). e.0) (bare es) ≡ map (λ (e : Entry). e.0) es
bare_keys [] = refl
bare_keys (e ∷ es) = ap (λ (ps : List (List ℕ)). e.0 ∷ ps) (bare_keys es)

pub same_keys : (t u : Tree) → ((q : List ℕ) → has t q ≡ has u q) → finite.keys t ≡ finite.keys u
same_keys t u is =
    let es = finite.entries t in
    let fs = finite.entries u in
    let same : bare es ≡ bare fs = same_entries path_cmp path_total path_only (bare es) (bare fs)
    (subst T (sym (bare_sorted es)) (finite.entries_sorted t))
    (subst T (sym (bare_sorted fs)) (finite.entries_sorted u))
    (λ q. bare_found q es
    ∙ ap marked (ap is_some (sym (finite.get-entries t q)) ∙ is q ∙ ap is_some (finite.get-entries u q))
    ∙ sym (bare_found q fs)) in
    sym (bare_keys es) ∙ ap (λ (ks : List Key). map (λ (e : Key). e.0) ks) same ∙ bare_keys fs
