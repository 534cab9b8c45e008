-- The pages of a tree as a list of entries, of which the first one at a path counts.
use Rattle.std.proofs.Common.{◌≡◌, ℕ, zero, suc, ◌<◌, ◌+◌, Bool, true, false, not, cond, List, [], ◌∷◌, ◌++◌, inl, inr, refl, sym, ap, ◌∙◌, Option, Some, None, is_some, length, get_or, set, filter, position, arith}
use Rattle.std.specs.Cmp.Lexicographic.{texts_ties}
use Rattle.std.specs.FinMap as map
use Rattle.std.specs.FinMap.{find}
use Rattle.std.specs.List.{position_from}
use Rattle.std.proofs.lemmas.Iterator.Adapters.{position_from-zero}
use Rattle.std.proofs.lemmas.List.Quantifiers.{position-Some}
use Rattle.std.specs.FinMap.Entries.{find-where_key}
use Rattle.afs_base.specs.Path.{path_cmp, is_prefix}
use Rattle.tree_model.specs.Entries.{Page, is_at}
use Rattle.tree_model.specs.Trees.{has, without}
use Rattle.tree_model.proofs.Paths.{told, never, same, path_total, path_only, same_is, path_told}
use Rattle.tree_model.proofs.TreeFacts.{get_insert, get_without}

pub is_at_same : (at : List ℕ) (page : Page) → is_at at page ≡ same page.0 at
is_at_same at page = texts_ties page.0 at

swapped_same : (p q : List ℕ) → same p q ≡ same q p
swapped_same p q = elim (path_told p q) [
  | inl e ↦ (λ i. same (e i) (sym e i))
  | inr e ↦ elim (path_told q p) [ inl g ↦ (λ i. same (sym g i) (g i)) | inr g ↦ e ∙ sym g ]
]

-- the first entry at a path is the one that is found
found_at : (pages : List Page) (i : ℕ) (at : List ℕ) (d : Page) → i < length pages → same (get_or pages i d).0 at ≡ true
    → ((k : ℕ) → k < i → same (get_or pages k d).0 at ≡ false) → find path_cmp at pages ≡ Some (get_or pages i d).1
found_at [] i at d short here before = absurd (omega arith)
found_at (page ∷ pages) zero at d short here before = ap (λ b. cond b (Some page.1) (find path_cmp at pages)) (swapped_same at page.0 ∙ here)
found_at (page ∷ pages) (suc i) at d short here before =
    ap (λ b. cond b (Some page.1) (find path_cmp at pages)) (swapped_same at page.0 ∙ before 0 (omega arith))
    ∙ found_at pages i at d (omega arith) here (λ k h. before (suc k) (omega arith))

twice : {A : Type 0} (b : Bool) (x y z : A) → cond b x z ≡ cond b x (cond b y z)
twice true x y z = refl
twice false x y z = refl

crossed : {A : Type 0} (a b : Bool) (x y z : A) → (a ≡ true → b ≡ true → false ≡ true) → cond a x (cond b y z) ≡ cond b y (cond a x z)
crossed true true x y z apart = absurd (never_true (apart refl refl))
  where
    never_true : false ≡ true → ⊥
    never_true h = never h refl
crossed true false x y z apart = refl
crossed false b x y z apart = refl

-- the first entry at a path is replaced
found_set : (pages : List Page) (i : ℕ) (at bytes : List ℕ) (d : Page) (q : List ℕ) → i < length pages → same (get_or pages i d).0 at ≡ true
    → ((k : ℕ) → k < i → same (get_or pages k d).0 at ≡ false)
    → find path_cmp q (set pages i (at, bytes)) ≡ cond (same q at) (Some bytes) (find path_cmp q pages)
found_set [] i at bytes d q short here before = absurd (omega arith)
found_set (page ∷ pages) zero at bytes d q short here before =
    let is = same_is page.0 at here in
    twice (same q at) (Some bytes) (Some page.1) (find path_cmp q pages)
    ∙ ap (λ p. cond (same q at) (Some bytes) (cond (same q p) (Some page.1) (find path_cmp q pages))) (sym is)
found_set (page ∷ pages) (suc i) at bytes d q short here before =
    ap (λ o. cond (same q page.0) (Some page.1) o) (found_set pages i at bytes d q (omega arith) here (λ k h. before (suc k) (omega arith)))
    ∙ crossed (same q page.0) (same q at) _ _ _ (λ a b.
    sym (before 0 (omega arith)) ∙ ap (λ p. same p at) (sym (same_is q page.0 a)) ∙ b)

none_from : (pages : List Page) (n : ℕ) (at : List ℕ) → position_from (is_at at) n pages ≡ None → find path_cmp at pages ≡ None
none_from [] n at h = refl
none_from (page ∷ pages) n at h = elim (told (is_at at page)) [
  | inl e ↦ let clash : Some n ≡ None = ap (λ b. cond b (Some n) (position_from (is_at at) (n + 1) pages)) (sym e) ∙ h in cc
  | inr e ↦ ap (λ b. cond b (Some page.1) (find path_cmp at pages)) (swapped_same at page.0 ∙ sym (is_at_same at page) ∙ e)
      ∙ none_from pages (n + 1) at (ap (λ b. cond b (Some n) (position_from (is_at at) (n + 1) pages)) (sym e) ∙ h)
]

-- no entry at a path is found where none stands there
pub found_none : (pages : List Page) (at : List ℕ) → position (is_at at) pages ≡ None → map.get (map.from_entries {R = path_cmp} pages) at ≡ None
found_none pages at h = map.get-from_entries path_total pages at ∙ none_from pages 0 at (sym (position_from-zero (is_at at) pages) ∙ h)

-- the place of the first entry at a path holds what the tree has there
pub found_some : (pages : List Page) (at : List ℕ) (i : ℕ) (d : Page) → position (is_at at) pages ≡ Some i → map.get (map.from_entries {R = path_cmp} pages) at ≡ Some (get_or pages i d).1
found_some pages at i d h =
    let here = position-Some (is_at at) pages i d h in
    map.get-from_entries path_total pages at
    ∙ found_at pages i at d here.0 (sym (is_at_same at (get_or pages i d)) ∙ here.1) (λ k before. sym (is_at_same at (get_or pages k d)) ∙ here.2 k before)

-- to replace the first entry at a path is to put the page there
pub put_at : (pages : List Page) (at bytes : List ℕ) (i : ℕ) (d : Page) → position (is_at at) pages ≡ Some i
    → map.from_entries {R = path_cmp} (set pages i (at, bytes)) ≡ map.insert (map.from_entries pages) at bytes
put_at pages at bytes i d h =
    let here = position-Some (is_at at) pages i d h in
    map.same_map path_total path_only _ _ (λ q.
    map.get-from_entries path_total (set pages i (at, bytes)) q
    ∙ found_set pages i at bytes d q here.0 (sym (is_at_same at (get_or pages i d)) ∙ here.1) (λ k before. sym (is_at_same at (get_or pages k d)) ∙ here.2 k before)
    ∙ ap (λ o. cond (same q at) (Some bytes) o) (sym (map.get-from_entries path_total pages q))
    ∙ sym (get_insert (map.from_entries pages) at bytes q))

-- to push an entry at a path where none stands is to put the page there
pub put_new : (pages : List Page) (at bytes : List ℕ) → map.get (map.from_entries {R = path_cmp} pages) at ≡ None
    → map.from_entries {R = path_cmp} (pages ++ (at, bytes) ∷ []) ≡ map.insert (map.from_entries pages) at bytes
put_new pages at bytes none = map.from_entries_push path_total path_only pages at bytes (sym (map.get-from_entries path_total pages at) ∙ none)

-- to keep the entries that are not at or below a path is to take those away
pub take_away : (pages : List Page) (at : List ℕ) → map.from_entries {R = path_cmp} (filter (λ page. not (is_prefix at page.0)) pages) ≡ without (map.from_entries pages) at
take_away pages at =
    map.same_map path_total path_only _ _ (λ q.
    map.get-from_entries path_total (filter (λ page. not (is_prefix at page.0)) pages) q
    ∙ find-where_key path_cmp (λ x. not (is_prefix at x)) q (λ x e. ap (λ r. not (is_prefix at r)) (sym (path_only q x e))) pages
    ∙ ap (λ o. cond (not (is_prefix at q)) o None) (sym (map.get-from_entries path_total pages q))
    ∙ sym (get_without (map.from_entries pages) at q))

-- a page is there where an entry stands at its path
pub is_some_at : (pages : List Page) (at : List ℕ) → is_some (position (is_at at) pages) ≡ has (map.from_entries {R = path_cmp} pages) at
is_some_at pages at = by (position (is_at at) pages) refl
  where
    by : (o : Option ℕ) → position (is_at at) pages ≡ o → is_some o ≡ has (map.from_entries {R = path_cmp} pages) at
    by None e = sym (ap is_some (found_none pages at e))
    by (Some i) e = sym (ap is_some (found_some pages at i ([], []) e))
