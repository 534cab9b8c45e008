-- Pages that were not accessed are let go: which rows stay, and what the roots show.
use Rattle.std.proofs.Common.{◌≡◌, ◌≢◌, ℕ, zero, suc, ◌+◌, ◌<◌, ◌≤◌, Bool, true, false, not, ◌||◌, cond, nat_eq, get_or, List, [], ◌∷◌, ◌++◌, length, filter, take, drop, ◌⊎◌, inl, inr, refl, sym, ap, subst, ◌∙◌, Option, Some, option_map, eq-eqb, eqb-true, arith}
use Rattle.std.specs.Prelude.{slice_get, IfSome}
use Rattle.std.specs.List.{remove}
use Rattle.std.proofs.lemmas.List.Edits.{length-remove}
use Rattle.std.proofs.lemmas.Option.{slice_get_within}
use Rattle.tree_model.proofs.Paths.{told, false_if, same_is}
use Rattle.page_codec.specs.Values.{PageValue}
use Rattle.page_places.specs.Places.{same}
use Rattle.draft_model.specs.Views.{Copied}
use Rattle.draft_model.specs.Told.{is_accessed}
use Rattle.draft_model.specs.Entries.{Entry}
use Rattle.draft_model.proofs.Entries.{IsInOrder, AllAfter, order_head, order_tail}
use Rattle.std.specs.List.Sorted.{IsStrictlySortedBy}
use Rattle.draft_tree.specs.Pages.{is_kept}
use Rattle.pool_draft.specs.declared.row.Row.{Row}
use Rattle.pool_draft.specs.Forest.{below}
use Rattle.pool_draft.specs.Held.{Held, beside, picked_tree, more_rows}
use Rattle.pool_draft.specs.Rows.{copied_in, forest}
use Rattle.pool_draft.specs.Writes.{row_stays}
use Rattle.frame_pool.specs.Leasing.{left}
use Rattle.pool_draft.proofs.RowTouch.{row_here, row_at}
use Rattle.pool_draft.proofs.Written.{trees_same, eq_sym}

-- ---- one row

-- a row of the picked root, below `/`, stays where its page was accessed
pub stays_accessed : (h j : Held) (k : ℕ) (r : Row) (c : Copied) (b : Bool) → h ≡ j → k < length j.rows → r ≡ get_or h.rows k r → r.key.root ≡ h.root → r.key.path ≢ []
    → option_map (copied_in j.pages) (slice_get j.rows k) ≡ Some c → b ≡ is_accessed c → IfSome (slice_get j.rows k) (λ x. b ≡ row_stays j.root j.pages x)
stays_accessed h j k r c b held within is own deep looked told_is =
    let at = row_here h j k r held within is in
    let root : nat_eq r.key.root j.root ≡ true = eq-eqb r.key.root j.root (own ∙ ap (λ (x : Held). x.root) held) in
    let below_top : same r.key.path [] ≡ false = false_if (same r.key.path []) (λ e. absurd (deep (same_is r.key.path [] e))) in
    let page : copied_in j.pages r ≡ c = some_is (copied_in j.pages r) c (sym (ap (option_map (copied_in j.pages)) at) ∙ looked) in
    let G : Option Row → Type 0 = λ o. IfSome o (λ x. b ≡ row_stays j.root j.pages x) in
    subst G (sym at) (told_is ∙ sym (λ i. not (root i) || (below_top i || is_accessed (page i))))
  where
    some_is : (x y : Copied) → Some x ≡ Some y → x ≡ y
    some_is x y e = cc e

-- ---- all rows

-- the picked root
pub tree_kept : (root : ℕ) (pages : List PageValue) (rows : List Row)
    → below root (forest pages (filter (row_stays root pages) rows)) ≡ filter (λ e. is_kept e.0 e.1) (below root (forest pages rows))
tree_kept root pages [] = refl
tree_kept root pages (r ∷ rows) = by (told (nat_eq r.key.root root)) (tree_kept root pages rows)
  where
    at_own : nat_eq r.key.root root ≡ true → (b : Bool) → is_kept r.key.path (copied_in pages r) ≡ b
        → below root (forest pages (filter (row_stays root pages) rows)) ≡ filter (λ e. is_kept e.0 e.1) (below root (forest pages rows))
        → below root (forest pages (cond b (r ∷ filter (row_stays root pages) rows) (filter (row_stays root pages) rows)))
        ≡ cond b ((r.key.path, copied_in pages r) ∷ filter (λ e. is_kept e.0 e.1) (below root (forest pages rows))) (filter (λ e. is_kept e.0 e.1) (below root (forest pages rows)))
    at_own own true h same =
        ap (λ b. cond b ((r.key.path, copied_in pages r) ∷ below root (forest pages (filter (row_stays root pages) rows))) (below root (forest pages (filter (row_stays root pages) rows)))) own
        ∙ ap (λ (xs : List Entry). (r.key.path, copied_in pages r) ∷ xs) same
    at_own own false h same = same

    by : (nat_eq r.key.root root ≡ true) ⊎ (nat_eq r.key.root root ≡ false)
        → below root (forest pages (filter (row_stays root pages) rows)) ≡ filter (λ e. is_kept e.0 e.1) (below root (forest pages rows))
        → below root (forest pages (cond (not (nat_eq r.key.root root) || is_kept r.key.path (copied_in pages r)) (r ∷ filter (row_stays root pages) rows) (filter (row_stays root pages) rows)))
        ≡ filter (λ e. is_kept e.0 e.1) (cond (nat_eq r.key.root root) ((r.key.path, copied_in pages r) ∷ below root (forest pages rows)) (below root (forest pages rows)))
    by (inl own) same =
        ap (λ b. below root (forest pages (cond (not b || is_kept r.key.path (copied_in pages r)) (r ∷ filter (row_stays root pages) rows) (filter (row_stays root pages) rows)))) own
        ∙ at_own own (is_kept r.key.path (copied_in pages r)) refl same
        ∙ sym (ap (λ b. filter (λ (e : Entry). is_kept e.0 e.1) (cond b ((r.key.path, copied_in pages r) ∷ below root (forest pages rows)) (below root (forest pages rows)))) own)
    by (inr off) same =
        ap (λ b. below root (forest pages (cond (not b || is_kept r.key.path (copied_in pages r)) (r ∷ filter (row_stays root pages) rows) (filter (row_stays root pages) rows)))) off
        ∙ ap (λ b. cond b ((r.key.path, copied_in pages r) ∷ below root (forest pages (filter (row_stays root pages) rows))) (below root (forest pages (filter (row_stays root pages) rows)))) off
        ∙ same
        ∙ sym (ap (λ b. filter (λ (e : Entry). is_kept e.0 e.1) (cond b ((r.key.path, copied_in pages r) ∷ below root (forest pages rows)) (below root (forest pages rows)))) off)

-- a row that goes is of the picked root
goes_own : (root : ℕ) (pages : List PageValue) (r : Row) → row_stays root pages r ≡ false → nat_eq r.key.root root ≡ true
goes_own root pages r h = by (nat_eq r.key.root root) h
  where
    by : (b : Bool) → (not b || is_kept r.key.path (copied_in pages r)) ≡ false → b ≡ true
    by true e = refl
    by false e = absurd (cc e)

-- any other root
tree_other : (root k : ℕ) (pages : List PageValue) → nat_eq k root ≡ false → (rows : List Row)
    → below k (forest pages (filter (row_stays root pages) rows)) ≡ below k (forest pages rows)
tree_other root k pages off [] = refl
tree_other root k pages off (r ∷ rows) = by (row_stays root pages r) refl (tree_other root k pages off rows)
  where
    by : (b : Bool) → row_stays root pages r ≡ b → below k (forest pages (filter (row_stays root pages) rows)) ≡ below k (forest pages rows)
        → below k (forest pages (cond b (r ∷ filter (row_stays root pages) rows) (filter (row_stays root pages) rows)))
        ≡ cond (nat_eq r.key.root k) ((r.key.path, copied_in pages r) ∷ below k (forest pages rows)) (below k (forest pages rows))
    by true h rest = ap (λ (es : List Entry). cond (nat_eq r.key.root k) ((r.key.path, copied_in pages r) ∷ es) es) rest
    by false h rest =
        let other : nat_eq r.key.root k ≡ false = ap (λ n. nat_eq n k) (eqb-true r.key.root root (goes_own root pages r h)) ∙ eq_sym k root off in
        rest ∙ sym (ap (λ b. cond b ((r.key.path, copied_in pages r) ∷ below k (forest pages rows)) (below k (forest pages rows))) other)

more_kept : (root : ℕ) (pages : List PageValue) (rows : List Row) → more_rows root (filter (row_stays root pages) rows) ≡ more_rows root rows
more_kept root pages [] = refl
more_kept root pages (r ∷ rows) = by (row_stays root pages r) refl (more_kept root pages rows)
  where
    by : (b : Bool) → row_stays root pages r ≡ b → more_rows root (filter (row_stays root pages) rows) ≡ more_rows root rows
        → more_rows root (cond b (r ∷ filter (row_stays root pages) rows) (filter (row_stays root pages) rows))
        ≡ cond (nat_eq r.key.root root) (more_rows root rows) (suc (more_rows root rows))
    by true h rest = ap (λ n. cond (nat_eq r.key.root root) n (suc n)) rest
    by false h rest = rest ∙ sym (ap (λ b. cond b (more_rows root rows) (suc (more_rows root rows))) (goes_own root pages r h))

pub beside_kept : (h j : Held) → j.pages ≡ h.pages → j.root ≡ h.root → j.rows ≡ filter (row_stays h.root h.pages) h.rows
    → length j.rows + left j.run ≡ length h.rows + left h.run → beside j ≡ beside h
beside_kept h j pages root rows frames =
    (λ i. record {
      root = root i;
      trees = trees_same j h root other i;
      more = more i;
      frames = frames i;
      pool = length (pages i);
    })
  where
    other : (k : ℕ) → nat_eq k h.root ≡ false → below k (forest j.pages j.rows) ≡ below k (forest h.pages h.rows)
    other k off = (λ i. below k (forest (pages i) (rows i))) ∙ tree_other h.root k h.pages off h.rows

    more : more_rows j.root j.rows ≡ more_rows h.root h.rows
    more = (λ i. more_rows (root i) (rows i)) ∙ more_kept h.root h.pages h.rows

-- ---- row by row, from the last

-- the rows after those from the k-th on were looked at
abbrev pub IsLooked : (Row → Bool) → List Row → List Row → ℕ → Type 0
IsLooked f all rows k = (k ≤ length all) × (rows ≡ take k all ++ filter f (drop k all))

get_front : (all rest : List Row) (k : ℕ) (r : Row) → slice_get all k ≡ Some r → slice_get (take (suc k) all ++ rest) k ≡ Some r
get_front [] rest k r at = absurd (cc at)
get_front (x ∷ all) rest zero r at = at
get_front (x ∷ all) rest (suc k) r at = get_front all rest k r at

split_front : (all rest : List Row) (k : ℕ) (r : Row) → slice_get all k ≡ Some r → take (suc k) all ++ rest ≡ take k all ++ r ∷ rest
split_front [] rest k r at = absurd (cc at)
split_front (x ∷ all) rest zero r at = ap (λ y. y ∷ rest) (row_is x r at)
  where
    row_is : (a b : Row) → Some a ≡ Some b → a ≡ b
    row_is a b h = cc h
split_front (x ∷ all) rest (suc k) r at = ap (λ l. x ∷ l) (split_front all rest k r at)

drop_front : (all : List Row) (k : ℕ) (r : Row) → slice_get all k ≡ Some r → drop k all ≡ r ∷ drop (suc k) all
drop_front [] k r at = absurd (cc at)
drop_front (x ∷ all) zero r at = ap (λ y. y ∷ all) (row_is x r at)
  where
    row_is : (a b : Row) → Some a ≡ Some b → a ≡ b
    row_is a b h = cc h
drop_front (x ∷ all) (suc k) r at = drop_front all k r at

remove_middle : (all rest : List Row) (k : ℕ) (r : Row) → k ≤ length all → remove (take k all ++ r ∷ rest) k ≡ take k all ++ rest
remove_middle all rest zero r h = refl
remove_middle [] rest (suc k) r h = absurd (omega arith)
remove_middle (x ∷ all) rest (suc k) r h = ap (λ l. x ∷ l) (remove_middle all rest k r (omega arith))

-- the row at a place is that of before
pub row_of_before : (f : Row → Bool) (all rows : List Row) (k : ℕ) (r : Row) → IsLooked f all rows (suc k) → slice_get all k ≡ Some r → slice_get rows k ≡ Some r
row_of_before f all rows k r far at = ap (λ rs. slice_get rs k) far.1 ∙ get_front all (filter f (drop (suc k) all)) k r at

pub looked_stays : (f : Row → Bool) (all rows : List Row) (k : ℕ) (r : Row) → IsLooked f all rows (suc k) → slice_get all k ≡ Some r → f r ≡ true → IsLooked f all rows k
looked_stays f all rows k r far at stays = (
  omega (arith, far.0),
  far.1 ∙ split_front all (filter f (drop (suc k) all)) k r at
      ∙ sym (ap (λ l. take k all ++ filter f l) (drop_front all k r at) ∙ ap (λ b. take k all ++ cond b (r ∷ filter f (drop (suc k) all)) (filter f (drop (suc k) all))) stays),
)

pub looked_goes : (f : Row → Bool) (all rows : List Row) (k : ℕ) (r : Row) → IsLooked f all rows (suc k) → slice_get all k ≡ Some r → f r ≡ false → IsLooked f all (remove rows k) k
looked_goes f all rows k r far at goes = (
  omega (arith, far.0),
  ap (λ rs. remove rs k) (far.1 ∙ split_front all (filter f (drop (suc k) all)) k r at)
      ∙ remove_middle all (filter f (drop (suc k) all)) k r (omega (arith, far.0))
      ∙ sym (ap (λ l. take k all ++ filter f l) (drop_front all k r at) ∙ ap (λ b. take k all ++ cond b (r ∷ filter f (drop (suc k) all)) (filter f (drop (suc k) all))) goes),
)

-- ---- the pages and the run with them

-- the rows from the k-th on were looked at, and the frames of those that went are back
abbrev pub IsKeptTo : Held → Held → ℕ → Type 0
IsKeptTo h j k =
    IsLooked (row_stays h.root h.pages) h.rows j.rows k × (j.pages ≡ h.pages) × (j.root ≡ h.root)
    × (length j.rows + left j.run ≡ length h.rows + left h.run)

-- what was said of the row at a place
stays_is : (h j : Held) (k : ℕ) (b : Bool) → IsKeptTo h j (suc k) → (r : Row) → slice_get j.rows k ≡ Some r
    → IfSome (slice_get j.rows k) (λ x. b ≡ row_stays j.root j.pages x) → row_stays h.root h.pages r ≡ b
stays_is h j k b far r at told_is =
    let G : Option Row → Type 0 = λ o. IfSome o (λ x. b ≡ row_stays j.root j.pages x) in
    let is : b ≡ row_stays j.root j.pages r = subst G at told_is in
    sym (is ∙ (λ i. row_stays (far.2 i) (far.1 i) r))

pub kept_stays : (h j : Held) (k : ℕ) (b : Bool) → IsKeptTo h j (suc k) → IfSome (slice_get j.rows k) (λ x. b ≡ row_stays j.root j.pages x) → b ≡ true
    → IsKeptTo h j k
kept_stays h j k b far told_is on =
    let at = row_at h k (omega (arith, far.0.0)) in
    let here = row_of_before (row_stays h.root h.pages) h.rows j.rows k at.row far.0 at.at in
    (looked_stays (row_stays h.root h.pages) h.rows j.rows k at.row far.0 at.at (stays_is h j k b far at.row here told_is ∙ on), far.1, far.2, far.3)

pub kept_goes : (h j i : Held) (k : ℕ) (b : Bool) → IsKeptTo h j (suc k) → IfSome (slice_get j.rows k) (λ x. b ≡ row_stays j.root j.pages x) → b ≡ false
    → i.rows ≡ remove j.rows k → i.pages ≡ j.pages → i.root ≡ j.root → left i.run ≡ left j.run + 1 → IsKeptTo h i k
kept_goes h j i k b far told_is off rows pages root more =
    let at = row_at h k (omega (arith, far.0.0)) in
    let here = row_of_before (row_stays h.root h.pages) h.rows j.rows k at.row far.0 at.at in
    let within : k < length j.rows = slice_get_within j.rows k at.row here in
    let L : List Row → Type 0 = λ rs. IsLooked (row_stays h.root h.pages) h.rows rs k in (
      subst L (sym rows) (looked_goes (row_stays h.root h.pages) h.rows j.rows k at.row far.0 at.at (stays_is h j k b far at.row here told_is ∙ off)),
      pages ∙ far.1,
      root ∙ far.2,
      omega (arith, far.3, more, ap length rows, length-remove j.rows k within),
    )

pub kept_tree : (h j : Held) → IsKeptTo h j 0 → picked_tree j ≡ filter (λ e. is_kept e.0 e.1) (picked_tree h)
kept_tree h j far = (λ i. below (far.2 i) (forest (far.1 i) (far.0.1 i))) ∙ tree_kept h.root h.pages h.rows

pub kept_beside : (h j : Held) → IsKeptTo h j 0 → beside j ≡ beside h
kept_beside h j far = beside_kept h j far.1 far.2 far.0.1 far.3

-- ---- the entries that stay are in order

after_kept : (f : Entry → Bool) (p : List ℕ) (es : List Entry) → AllAfter p es → AllAfter p (filter f es)
after_kept f p [] after = tt
after_kept f p (e ∷ es) after = by (f e) (after_kept f p es after.1)
  where
    by : (b : Bool) → AllAfter p (filter f es) → AllAfter p (cond b (e ∷ filter f es) (filter f es))
    by true rest = (after.0, rest)
    by false rest = rest

pub order_kept : (f : Entry → Bool) (es : List Entry) → IsInOrder es → IsInOrder (filter f es)
unfolding IsStrictlySortedBy
order_kept f [] order = tt
order_kept f (e ∷ es) order = by (f e) (order_kept f es (order_tail e es order))
  where
    by : (b : Bool) → IsInOrder (filter f es) → IsInOrder (cond b (e ∷ filter f es) (filter f es))
    by true rest = (after_kept f e.0 es (order_head e es order), rest)
    by false rest = rest
