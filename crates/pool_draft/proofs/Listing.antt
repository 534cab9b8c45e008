-- The fresh paths of the picked root, row by row.
use Rattle.std.proofs.Common.{◌≡◌, ℕ, zero, suc, ◌+◌, ◌<◌, ◌≤◌, Bool, true, false, ◌&&◌, cond, nat_eq, List, [], ◌∷◌, ◌++◌, drop, length, ◌⊎◌, inl, inr, refl, sym, ap, subst, ◌∙◌, Some, None, add-one, append_assoc, length-append, arith}
use Rattle.std.specs.Prelude.{slice_get}
use Rattle.tree_model.proofs.Paths.{told, never}
use Rattle.page_codec.specs.Values.{PageValue}
use Rattle.draft_model.specs.Entries.{Entry, is_fresh, fresh_paths}
use Rattle.draft_tree.proofs.Fresh.{IsListed, listed_start, listed_more, listed_room, listed_same, listed_all}
use Rattle.pool_draft.specs.declared.row.Row.{Row}
use Rattle.pool_draft.specs.Forest.{below}
use Rattle.pool_draft.specs.Rows.{copied_in, forest}

-- the pages of a root from a row on
abbrev pub tree_from : ℕ → List PageValue → List Row → ℕ → List Entry
tree_from root pages rows k = below root (forest pages (drop k rows))

pub drop_at : {A : Type 0} (xs : List A) (k : ℕ) (x : A) → slice_get xs k ≡ Some x → drop k xs ≡ x ∷ drop (k + 1) xs
drop_at xs k x at = by xs k at ∙ ap (λ n. x ∷ drop n xs) (sym (add-one k))
  where
    by : (xs : List _) (k : ℕ) → slice_get xs k ≡ Some x → drop k xs ≡ x ∷ drop (suc k) xs
    by [] k at = absurd (cc at)
    by (y ∷ xs) zero at = ap (λ z. z ∷ xs) (is y at)
      where
        is : (y : _) → Some y ≡ Some x → y ≡ x
        is y h = cc h
    by (y ∷ xs) (suc k) at = by xs k at

-- the row is of another root, or its page is not fresh
pub skipped : (root : ℕ) (pages : List PageValue) (rows : List Row) (k : ℕ) (r : Row) (all : List Entry) (listed : List (List ℕ)) → slice_get rows k ≡ Some r
    → (nat_eq r.key.root root && is_fresh all (r.key.path, copied_in pages r)) ≡ false
    → IsListed all (tree_from root pages rows k) listed → IsListed all (tree_from root pages rows (k + 1)) listed
skipped root pages rows k r all listed at stale so_far =
    let F : List Entry → Type 0 = λ es. IsListed all es listed in
    by (told (nat_eq r.key.root root)) (subst F (ap (λ rs. below root (forest pages rs)) (drop_at rows k r at)) so_far)
  where
    by : (nat_eq r.key.root root ≡ true) ⊎ (nat_eq r.key.root root ≡ false)
        → IsListed all (cond (nat_eq r.key.root root) ((r.key.path, copied_in pages r) ∷ tree_from root pages rows (k + 1)) (tree_from root pages rows (k + 1))) listed
        → IsListed all (tree_from root pages rows (k + 1)) listed
    by (inl e) h =
        let F : Bool → Type 0 = λ b. IsListed all (cond b ((r.key.path, copied_in pages r) ∷ tree_from root pages rows (k + 1)) (tree_from root pages rows (k + 1))) listed in
        listed_same all (tree_from root pages rows (k + 1)) (r.key.path, copied_in pages r) listed
        (sym (ap (λ b. b && is_fresh all (r.key.path, copied_in pages r)) e) ∙ stale) (subst F e h)
    by (inr e) h =
        let F : Bool → Type 0 = λ b. IsListed all (cond b ((r.key.path, copied_in pages r) ∷ tree_from root pages rows (k + 1)) (tree_from root pages rows (k + 1))) listed in
        subst F e h

-- it is fresh
pub is_next : (root : ℕ) (pages : List PageValue) (rows : List Row) (k : ℕ) (r : Row) (all : List Entry) (listed : List (List ℕ)) → slice_get rows k ≡ Some r
    → (nat_eq r.key.root root && is_fresh all (r.key.path, copied_in pages r)) ≡ true
    → IsListed all (tree_from root pages rows k) listed
    → (is_fresh all (r.key.path, copied_in pages r) ≡ true) × IsListed all ((r.key.path, copied_in pages r) ∷ tree_from root pages rows (k + 1)) listed
is_next root pages rows k r all listed at fresh so_far =
    let F : List Entry → Type 0 = λ es. IsListed all es listed in
    by (told (nat_eq r.key.root root)) (subst F (ap (λ rs. below root (forest pages rs)) (drop_at rows k r at)) so_far)
  where
    by : (nat_eq r.key.root root ≡ true) ⊎ (nat_eq r.key.root root ≡ false)
        → IsListed all (cond (nat_eq r.key.root root) ((r.key.path, copied_in pages r) ∷ tree_from root pages rows (k + 1)) (tree_from root pages rows (k + 1))) listed
        → (is_fresh all (r.key.path, copied_in pages r) ≡ true) × IsListed all ((r.key.path, copied_in pages r) ∷ tree_from root pages rows (k + 1)) listed
    by (inl e) h =
        let F : Bool → Type 0 = λ b. IsListed all (cond b ((r.key.path, copied_in pages r) ∷ tree_from root pages rows (k + 1)) (tree_from root pages rows (k + 1))) listed in
        (sym (ap (λ b. b && is_fresh all (r.key.path, copied_in pages r)) e) ∙ fresh, subst F e h)
    by (inr e) h = never fresh (ap (λ b. b && is_fresh all (r.key.path, copied_in pages r)) e)

-- after the last row
pub none_left : (root : ℕ) (pages : List PageValue) (rows : List Row) (k : ℕ) → length rows ≤ k → tree_from root pages rows k ≡ []
none_left root pages [] zero past = refl
none_left root pages [] (suc k) past = refl
none_left root pages (r ∷ rows) zero past = absurd (omega arith)
none_left root pages (r ∷ rows) (suc k) past = none_left root pages rows k (omega arith)

-- ---- counted alone

-- so far so many are fresh, and the entries `rest` are left
pub record IsCounted (all rest : List Entry) (count : ℕ) : Type 0 where
  pub listed : List (List ℕ)
  pub are : IsListed all rest listed
  pub many : length listed ≡ count

pub counted_start : (all : List Entry) → IsCounted all all 0
counted_start all = record { listed = []; are = listed_start all all [] refl refl; many = refl }

pub counted_all : (all rest : List Entry) (count : ℕ) → rest ≡ [] → IsCounted all rest count → count ≡ length (fresh_paths all)
counted_all all rest count none c =
    let F : List Entry → Type 0 = λ es. IsListed all es c.listed in
    sym c.many ∙ ap length (listed_all all c.listed (subst F none c.are))

pub counted_same : (root : ℕ) (pages : List PageValue) (rows : List Row) (k : ℕ) (r : Row) (all : List Entry) (count : ℕ) → slice_get rows k ≡ Some r
    → (nat_eq r.key.root root && is_fresh all (r.key.path, copied_in pages r)) ≡ false
    → IsCounted all (tree_from root pages rows k) count → IsCounted all (tree_from root pages rows (k + 1)) count
counted_same root pages rows k r all count at stale c =
    record { listed = c.listed; are = skipped root pages rows k r all c.listed at stale c.are; many = c.many }

pub counted_more : (root : ℕ) (pages : List PageValue) (rows : List Row) (k : ℕ) (r : Row) (all : List Entry) (count : ℕ) → slice_get rows k ≡ Some r
    → (nat_eq r.key.root root && is_fresh all (r.key.path, copied_in pages r)) ≡ true
    → IsCounted all (tree_from root pages rows k) count → (count < length all) × IsCounted all (tree_from root pages rows (k + 1)) (count + 1)
counted_more root pages rows k r all count at fresh c =
    let e : Entry = (r.key.path, copied_in pages r) in
    let next = is_next root pages rows k r all c.listed at fresh c.are in (
      omega (arith, listed_room all (tree_from root pages rows (k + 1)) e c.listed next.0 next.1, c.many),
      record {
        listed = c.listed ++ r.key.path ∷ [];
        are = listed_more all (tree_from root pages rows (k + 1)) e c.listed next.0 next.1;
        many = length-append c.listed (r.key.path ∷ []) ∙ ap (λ n. n + 1) c.many;
      },
    )

at_length : (listed rest : List (List ℕ)) (path : List ℕ) → slice_get (listed ++ path ∷ rest) (length listed) ≡ Some path
at_length [] rest path = refl
at_length (x ∷ listed) rest path = at_length listed rest path

past_length : (xs : List (List ℕ)) (k : ℕ) → length xs ≤ k → slice_get xs k ≡ None
past_length [] k past = refl
past_length (x ∷ xs) zero past = absurd (omega (arith, past))
past_length (x ∷ xs) (suc k) past = past_length xs k (omega (arith, past))

-- the one that is next has the place of the count
pub counted_here : (root : ℕ) (pages : List PageValue) (rows : List Row) (k : ℕ) (r : Row) (all : List Entry) (count : ℕ) → slice_get rows k ≡ Some r
    → (nat_eq r.key.root root && is_fresh all (r.key.path, copied_in pages r)) ≡ true
    → IsCounted all (tree_from root pages rows k) count → slice_get (fresh_paths all) count ≡ Some r.key.path
counted_here root pages rows k r all count at fresh c =
    let e : Entry = (r.key.path, copied_in pages r) in
    let next = is_next root pages rows k r all c.listed at fresh c.are in
    let more = listed_more all (tree_from root pages rows (k + 1)) e c.listed next.0 next.1 in
    ap (λ n. slice_get (fresh_paths all) n) (sym c.many)
    ∙ ap (λ (ps : List (List ℕ)). slice_get ps (length c.listed)) (sym more ∙ append_assoc c.listed (r.key.path ∷ []) _)
    ∙ at_length c.listed _ r.key.path

pub counted_past : (all rest : List Entry) (count k : ℕ) → rest ≡ [] → IsCounted all rest count → count ≤ k → slice_get (fresh_paths all) k ≡ None
counted_past all rest count k none c past = past_length (fresh_paths all) k (omega (arith, counted_all all rest count none c, past))
