-- Looking on from a row.
use Rattle.std.proofs.Common.{◌≡◌, ℕ, zero, suc, ◌<◌, ◌≤◌, Bool, true, false, ◌&&◌, nat_eq, get_or, eq-eqb, List, [], ◌∷◌, length, map, refl, sym, ap, subst, ◌∙◌, Option, Some, None, option_map, drop, arith}
use Rattle.std.proofs.lemmas.Option.{slice_get-map, slice_get_read}
use Rattle.std.specs.Prelude.{slice_get, IfSome}
use Rattle.std.specs.List.{AllByRecursion}
use Rattle.std.specs.List.Sorted.{IsStrictlySortedBy}
use Rattle.std.specs.Ordering.{is_le}
use Rattle.std.specs.Cmp.{tied_itself}
use Rattle.std.specs.declared.cmp.Ordering.TheVariants.{Less}
use Rattle.afs_base.specs.Path.{path_cmp, is_prefix}
use Rattle.tree_model.proofs.Paths.{path_total}
use Rattle.draft_model.specs.Views.{Copied}
use Rattle.draft_model.specs.Entries.{is_written, is_touched, is_fresh}
use Rattle.pool_draft.specs.declared.row.Row.{Row}
use Rattle.pool_draft.specs.Held.{Held, IsHeld, picked_tree}
use Rattle.pool_draft.specs.Rows.{key_of, copied_in, entry_in, forest}
use Rattle.pool_draft.specs.Seeking.{AreBefore, IsBehind, IsFoundAt, IsFromAt, IsGapAt}
use Rattle.pool_draft.proofs.Looks.{forest_order}
use Rattle.pool_draft.proofs.Rows.{keys_forest, all_here}
use Rattle.pool_draft.proofs.Touching.{IsFrom, touched_drop, stop_here, go_on, skip_one, found_one}

-- a row at a place
pub record RowAt (h : Held) (i : ℕ) : Type 0 where
  pub row : Row
  pub at : slice_get h.rows i ≡ Some row
  pub entry : slice_get (forest h.pages h.rows) i ≡ Some (entry_in h.pages row)

pub row_at : (h : Held) (i : ℕ) → i < length h.rows → RowAt h i
row_at h i within = by h.rows i within refl
  where
    make : (r : Row) → slice_get h.rows i ≡ Some r → RowAt h i
    make r e = record { row = r; at = e; entry = slice_get-map (entry_in h.pages) h.rows i ∙ ap (option_map (entry_in h.pages)) e }

    some : (rows : List Row) (k : ℕ) → k < length rows → (r : Row) × (slice_get rows k ≡ Some r)
    some [] k less = absurd (omega arith)
    some (r ∷ rows) zero less = (r, refl)
    some (r ∷ rows) (suc k) less = some rows k (omega arith)

    by : (rows : List Row) (k : ℕ) → k < length rows → slice_get rows k ≡ slice_get h.rows i → RowAt h i
    by rows k less e = let s = some rows k less in make s.0 (sym e ∙ s.1)

-- what a call said of the row there
pub said : (P : Row → Type 0) (h : Held) (i : ℕ) (at : RowAt h i) → IfSome (slice_get h.rows i) P → P at.row
said P h i at told = let F : Option Row → Type 0 = λ o. IfSome o P in subst F at.at told

-- the page of the row that was looked at
pub looked_is : (h : Held) (i : ℕ) (at : RowAt h i) (c : Copied) → option_map (copied_in h.pages) (slice_get h.rows i) ≡ Some c → copied_in h.pages at.row ≡ c
looked_is h i at c e = some_is (copied_in h.pages at.row) c (sym (ap (option_map (copied_in h.pages)) at.at) ∙ e)
  where
    some_is : (x y : Copied) → Some x ≡ Some y → x ≡ y
    some_is x y g = cc g

pub from_row : (h : Held) (i : ℕ) (key : List ℕ) (at : RowAt h i) → IsFromAt key (map key_of h.rows) i → is_le (path_cmp key (key_of at.row)) ≡ true
from_row h i key at from = from (key_of at.row) (slice_get-map key_of h.rows i ∙ ap (option_map key_of) at.at)

from_keys : (h : Held) (i : ℕ) (key : List ℕ) → IsFrom key (forest h.pages h.rows) i → IsFromAt key (map key_of h.rows) i
from_keys h i key from k e = by (slice_get h.rows i) refl (sym (slice_get-map key_of h.rows i) ∙ e)
  where
    key_is : (x y : List ℕ) → Some x ≡ Some y → x ≡ y
    key_is x y g = cc g

    by : (o : Option Row) → slice_get h.rows i ≡ o → option_map key_of o ≡ Some k → is_le (path_cmp key k) ≡ true
    by None g f = absurd (cc f)
    by (Some r) g f =
        ap (λ p. is_le (path_cmp key p)) (sym (key_is (key_of r) k f))
        ∙ from (entry_in h.pages r) (slice_get-map (entry_in h.pages) h.rows i ∙ ap (option_map (entry_in h.pages)) g)

-- ---- the steps of a search

-- so far nothing was found
abbrev pub IsSoFar : Held → List ℕ → ℕ → Type 0
IsSoFar h key i = (is_touched (drop i (forest h.pages h.rows)) key ≡ is_touched (forest h.pages h.rows) key) × IsFromAt key (map key_of h.rows) i

pub search_start : (h : Held) (key : List ℕ) (i : ℕ) → AreBefore key (map key_of h.rows) i → IsFromAt key (map key_of h.rows) i → IsSoFar h key i
search_start h key i before from =
    let F : List (List ℕ) → Type 0 = λ ks. AreBefore key ks i in
    (touched_drop (forest h.pages h.rows) i key (subst F (sym (keys_forest h.pages h.rows)) before), from)

pub search_stop : (h : Held) (key : List ℕ) (i : ℕ) (b : Bool) → IsHeld h → i < length h.rows → IfSome (slice_get h.rows i) (λ r. b ≡ is_prefix key (key_of r)) → b ≡ false
    → IsSoFar h key i → is_touched (forest h.pages h.rows) key ≡ false
search_stop h key i b held within told off far =
    let at = row_at h i within in
    sym far.0 ∙ stop_here (forest h.pages h.rows) i (entry_in h.pages at.row) key (forest_order h.pages h.rows held.ordered) at.entry (from_row h i key at far.1) (sym (said (λ r. b ≡ is_prefix key (key_of r)) h i at told) ∙ off)

pub search_found : (h : Held) (key : List ℕ) (i : ℕ) (b w : Bool) (c : Copied) → i < length h.rows → IfSome (slice_get h.rows i) (λ r. b ≡ is_prefix key (key_of r)) → b ≡ true
    → option_map (copied_in h.pages) (slice_get h.rows i) ≡ Some c → w ≡ is_written c → w ≡ true → IsSoFar h key i → is_touched (forest h.pages h.rows) key ≡ true
search_found h key i b w c within told on page is fresh far =
    let at = row_at h i within in
    sym far.0 ∙ found_one (forest h.pages h.rows) i (entry_in h.pages at.row) key at.entry (sym (said (λ r. b ≡ is_prefix key (key_of r)) h i at told) ∙ on)
    (ap (λ (x : Copied). is_written x) (looked_is h i at c page) ∙ sym is ∙ fresh)

pub search_on : (h : Held) (key : List ℕ) (i : ℕ) (b w : Bool) (c : Copied) → IsHeld h → i < length h.rows → IfSome (slice_get h.rows i) (λ r. b ≡ is_prefix key (key_of r)) → b ≡ true
    → option_map (copied_in h.pages) (slice_get h.rows i) ≡ Some c → w ≡ is_written c → w ≡ false → IsSoFar h key i → IsSoFar h key (suc i)
search_on h key i b w c held within told on page is stale far =
    let at = row_at h i within in
    let es = forest h.pages h.rows in (
      skip_one es i (entry_in h.pages at.row) key at.entry (ap (λ (x : Copied). is_written x) (looked_is h i at c page) ∙ sym is ∙ stale) ∙ far.0,
      from_keys h (suc i) key (go_on es i (entry_in h.pages at.row) key (forest_order h.pages h.rows held.ordered) at.entry (sym (said (λ r. b ≡ is_prefix key (key_of r)) h i at told) ∙ on)),
    )

pub search_end : (h : Held) (key : List ℕ) (i : ℕ) → length h.rows ≤ i → IsSoFar h key i → is_touched (forest h.pages h.rows) key ≡ false
search_end h key i past far = sym far.0 ∙ ap (λ es. is_touched es key) (drop_all (entry_in h.pages) h.rows i past)
  where
    drop_all : {A B : Type 0} (f : A → B) (xs : List A) (k : ℕ) → length xs ≤ k → drop k (map f xs) ≡ []
    drop_all f [] zero past = refl
    drop_all f [] (suc k) past = refl
    drop_all f (x ∷ xs) zero past = absurd (omega arith)
    drop_all f (x ∷ xs) (suc k) past = drop_all f xs k (omega arith)

-- ---- where a search begins

before_own : (ks : List (List ℕ)) (i : ℕ) (k : List ℕ) → IsStrictlySortedBy path_cmp ks → slice_get ks i ≡ Some k → AreBefore k ks i
unfolding IsStrictlySortedBy
before_own [] i k order at = absurd (cc at)
before_own (x ∷ ks) zero k order at = tt
before_own (x ∷ ks) (suc i) k order at = (here ks i k order.0 at, before_own ks i k order.1 at)
  where
    here : (ys : List (List ℕ)) (j : ℕ) (y : List ℕ) → AllByRecursion (λ z. path_cmp x z ≡ Less) ys → slice_get ys j ≡ Some y → path_cmp x y ≡ Less
    here ys j y all e = all_here (λ z. path_cmp x z ≡ Less) ys j y all e

pub begins_own : (h : Held) (i : ℕ) (key : List ℕ) → IsHeld h → IsFoundAt (map key_of h.rows) key i → AreBefore key (map key_of h.rows) i × IsFromAt key (map key_of h.rows) i
begins_own h i key held found =
    (before_own (map key_of h.rows) i key held.ordered found, λ k at. ap (λ p. is_le (path_cmp key p)) (key_is k key (sym at ∙ found)) ∙ ap is_le (tied_itself path_total key))
  where
    key_is : (x y : List ℕ) → Some x ≡ Some y → x ≡ y
    key_is x y g = cc g

pub begins_gap : (h : Held) (i : ℕ) (key : List ℕ) → IsGapAt (map key_of h.rows) key i → AreBefore key (map key_of h.rows) i × IsFromAt key (map key_of h.rows) i
begins_gap h i key gap = (gap.0, behind_from (map key_of h.rows) i gap.1)
  where
    behind_from : (ks : List (List ℕ)) (j : ℕ) → IsBehind key ks j → IsFromAt key ks j
    behind_from [] j behind k at = absurd (cc at)
    behind_from (x ∷ ks) zero behind k at = ap (λ p. is_le (path_cmp key p)) (sym (key_is x k at)) ∙ ap is_le behind
      where
        key_is : (x y : List ℕ) → Some x ≡ Some y → x ≡ y
        key_is x y g = cc g
    behind_from (x ∷ ks) (suc j) behind k at = behind_from ks j behind k at

-- ---- a row of the picked root

read_row : (h : Held) (k : ℕ) (r : Row) → k < length h.rows → r ≡ get_or h.rows k r → slice_get h.rows k ≡ Some r
read_row h k r within is = slice_get_read h.rows (length h.rows) k r refl within is

pub begins_row : (h j : Held) (k : ℕ) (r : Row) → h ≡ j → IsHeld h → k < length j.rows → r ≡ get_or h.rows k r → r.key.root ≡ h.root
    → AreBefore (j.root ∷ r.key.path) (map key_of j.rows) k × IsFromAt (j.root ∷ r.key.path) (map key_of j.rows) k
begins_row h j k r same held within is own =
    let F : Held → Type 0 = λ x. AreBefore (x.root ∷ r.key.path) (map key_of x.rows) k × IsFromAt (x.root ∷ r.key.path) (map key_of x.rows) k in
    let many : length h.rows ≡ length j.rows = ap (λ (x : Held). length x.rows) same in
    let at : slice_get h.rows k ≡ Some r = read_row h k r (omega (arith, many, within)) is in
    let key : IsFoundAt (map key_of h.rows) (h.root ∷ r.key.path) k = slice_get-map key_of h.rows k ∙ ap (option_map key_of) at ∙ ap (λ n. Some (n ∷ r.key.path)) own in
    subst F same (begins_own h k (h.root ∷ r.key.path) held key)

pub fresh_row : (h j : Held) (k : ℕ) (r : Row) (b : Bool) → h ≡ j → k < length j.rows → r ≡ get_or h.rows k r → r.key.root ≡ h.root → r.marks.live ≡ true
    → b ≡ is_touched (picked_tree j) r.key.path
    → IfSome (slice_get j.rows k) (λ x. b ≡ (nat_eq x.key.root j.root && is_fresh (picked_tree j) (x.key.path, copied_in j.pages x)))
fresh_row h j k r b same within is own live told =
    let F : Held → Type 0 = λ x. slice_get x.rows k ≡ Some r in
    let G : Option Row → Type 0 = λ o. IfSome o (λ x. b ≡ (nat_eq x.key.root j.root && is_fresh (picked_tree j) (x.key.path, copied_in j.pages x))) in
    let many : length h.rows ≡ length j.rows = ap (λ (x : Held). length x.rows) same in
    let at : slice_get j.rows k ≡ Some r = subst F same (read_row h k r (omega (arith, many, within)) is) in
    let root : r.key.root ≡ j.root = own ∙ ap (λ (x : Held). x.root) same in
    subst G (sym at) (told ∙ sym (λ i. eq-eqb r.key.root j.root root i && (live i && is_touched (picked_tree j) r.key.path)))

-- the row that was read at a place is the row there
pub row_here : (h j : Held) (k : ℕ) (r : Row) → h ≡ j → k < length j.rows → r ≡ get_or h.rows k r → slice_get j.rows k ≡ Some r
row_here h j k r same within is =
    let F : Held → Type 0 = λ x. slice_get x.rows k ≡ Some r in
    let many : length h.rows ≡ length j.rows = ap (λ (x : Held). length x.rows) same in
    subst F same (read_row h k r (omega (arith, many, within)) is)
