-- One page is written: what holds of the rows still does, the picked root shows the change, and all beside it stays.
use Rattle.std.proofs.Common.{◌≡◌, ℕ, ◌+◌, ◌<◌, ◌≤◌, true, false, cond, nat_eq, List, [], ◌∷◌, length, map, ◌⊎◌, inl, inr, refl, sym, ap, subst, ◌∙◌, Some, option_map, slice_set, eq-eqb, eqb-true, arith}
use Rattle.std.proofs.Math.ListN.{length-set}
use Rattle.std.proofs.lemmas.Option.{slice_get-map}
use Rattle.std.specs.Prelude.{slice_get}
use Rattle.std.specs.List.Sorted.{IsStrictlySortedBy}
use Rattle.std.specs.Ordering.{is_eq}
use Rattle.std.specs.Map.{keys_of}
use Rattle.afs_base.specs.Path.{path_cmp}
use Rattle.tree_model.proofs.Paths.{told, false_if, same_is}
use Rattle.page_codec.specs.Values.{PageValue}
use Rattle.page_places.specs.Places.{same}
use Rattle.draft_model.specs.Views.{Copied}
use Rattle.draft_model.specs.Entries.{Entry, shown}
use Rattle.draft_tree.specs.Marking.{copied_with}
use Rattle.draft_tree.specs.Pages.{changed, Shows}
use Rattle.frame_pool.specs.Leasing.{left}
use Rattle.pool_draft.specs.declared.row.Row.{Row}
use Rattle.pool_draft.specs.Forest.{below}
use Rattle.pool_draft.specs.Held.{Held, IsHeld, beside, picked_tree, tree_of, more_rows}
use Rattle.pool_draft.specs.Rows.{key_of, copied_in, entry_in, forest, frames_of, AreApart, AreAllOut, AreShort}
use Rattle.pool_draft.specs.Seeking.{IsFoundAt}
use Rattle.pool_draft.specs.Writes.{IsPageWritten}
use Rattle.pool_draft.proofs.Below.{shown_below, set_other, cmp_own, keys_below}
use Rattle.pool_draft.proofs.Entries.{found_shown, set_shown}
use Rattle.pool_draft.proofs.Looks.{forest_order}
use Rattle.pool_draft.proofs.Rows.{keys_forest, write_own, set_same, all_set, all_here, more_set}

-- with these pages and rows
abbrev pub with_rows : Held → List PageValue → List Row → Held
with_rows h pages rows = record { pages = pages; rows = rows; run = h.run; root = h.root }

keys_kept : (h : Held) (k : ℕ) (f : Copied → Copied) (pages : List PageValue) (rows : List Row) → IsPageWritten h.pages h.rows k f pages rows
    → map key_of rows ≡ map key_of h.rows
keys_kept h k f pages rows w = ap (map key_of) w.rows_are ∙ set_same key_of h.rows k w.row w.row' w.at w.key

frames_kept : (h : Held) (k : ℕ) (f : Copied → Copied) (pages : List PageValue) (rows : List Row) → IsPageWritten h.pages h.rows k f pages rows
    → frames_of rows ≡ frames_of h.rows
frames_kept h k f pages rows w = ap (λ (rs : List Row). frames_of rs) w.rows_are ∙ set_same (λ (r : Row). r.frame) h.rows k w.row w.row' w.at w.frame

tail_is : (x y : List ℕ) (a b : ℕ) → a ∷ x ≡ b ∷ y → x ≡ y
tail_is x y a b h = cc h

head_is : (x y : List ℕ) (a b : ℕ) → a ∷ x ≡ b ∷ y → a ≡ b
head_is x y a b h = cc h

pub held_written : (h : Held) (k : ℕ) (f : Copied → Copied) (pages : List PageValue) (rows : List Row) → IsHeld h → IsPageWritten h.pages h.rows k f pages rows
    → IsHeld (with_rows h pages rows)
held_written h k f pages rows held w =
    let O : List (List ℕ) → Type 0 = λ ks. IsStrictlySortedBy path_cmp ks in
    let A : List ℕ → Type 0 = λ fs. AreApart fs in
    let B : List ℕ → Type 0 = λ fs. AreAllOut h.run fs in
    let S : List Row → Type 0 = λ rs. AreShort rs in
    let frames = frames_kept h k f pages rows w in
    let long : length w.row'.key.path ≤ 7 =
    omega (arith, all_here (λ (r : Row). length r.key.path ≤ 7) h.rows k w.row held.short w.at, ap length (tail_is w.row'.key.path w.row.key.path w.row'.key.root w.row.key.root w.key)) in
    let many : length rows ≡ length h.rows = ap length w.rows_are ∙ length-set h.rows k w.row' in
    record {
      ordered = subst O (sym (keys_kept h k f pages rows w)) held.ordered;
      apart = subst A (sym frames) held.apart;
      out = subst B (sym frames) held.out;
      short = subst S (sym w.rows_are) (all_set (λ (r : Row). length r.key.path ≤ 7) h.rows k w.row' long held.short);
      of = omega (arith, held.of, w.many);
      room = omega (arith, held.room, many);
    }

pub shown_written : (h : Held) (k : ℕ) (f : Copied → Copied) (pages : List PageValue) (rows : List Row) (at : List ℕ) → IsHeld h
    → IsFoundAt (map key_of h.rows) (h.root ∷ at) k → IsPageWritten h.pages h.rows k f pages rows
    → Shows (picked_tree (with_rows h pages rows)) (changed (shown (picked_tree h)) at f)
shown_written h k f pages rows at held found w p =
    shown_below h.root (forest pages rows) p
    ∙ ap (λ es. shown es (h.root ∷ p)) w.forest_is
    ∙ set_shown es k (entry_in h.pages w.row) (f (copied_in h.pages w.row)) (forest_order h.pages h.rows held.ordered) here (h.root ∷ p)
    ∙ ap (λ key. cond (same (h.root ∷ p) key) (Some (f (copied_in h.pages w.row))) (shown es (h.root ∷ p))) key
    ∙ ap (λ o. cond (is_eq o) (Some (f (copied_in h.pages w.row))) (shown es (h.root ∷ p))) (cmp_own h.root p at)
    ∙ by (told (same p at))
    ∙ ap (λ o. cond (same p at) (option_map f o) o) (sym (shown_below h.root es p))
  where
    es : List Entry
    es = forest h.pages h.rows

    here : slice_get (forest h.pages h.rows) k ≡ Some (entry_in h.pages w.row)
    here = slice_get-map (entry_in h.pages) h.rows k ∙ ap (option_map (entry_in h.pages)) w.at

    key : key_of w.row ≡ h.root ∷ at
    key = some_is (key_of w.row) (h.root ∷ at) (sym (slice_get-map key_of h.rows k ∙ ap (option_map key_of) w.at) ∙ found)
      where
        some_is : (x y : List ℕ) → Some x ≡ Some y → x ≡ y
        some_is x y e = cc e

    by : (same p at ≡ true) ⊎ (same p at ≡ false)
        → cond (same p at) (Some (f (copied_in h.pages w.row))) (shown (forest h.pages h.rows) (h.root ∷ p))
        ≡ cond (same p at) (option_map f (shown (forest h.pages h.rows) (h.root ∷ p))) (shown (forest h.pages h.rows) (h.root ∷ p))
    by (inl e) =
        let own : shown (forest h.pages h.rows) (h.root ∷ p) ≡ Some (copied_in h.pages w.row) =
        ap (λ q. shown (forest h.pages h.rows) (h.root ∷ q)) (same_is p at e) ∙ ap (shown (forest h.pages h.rows)) (sym key)
        ∙ found_shown (forest h.pages h.rows) k (entry_in h.pages w.row) (forest_order h.pages h.rows held.ordered) here in
        ap (λ b. cond b (Some (f (copied_in h.pages w.row))) (shown (forest h.pages h.rows) (h.root ∷ p))) e
        ∙ sym (ap (option_map f) own)
        ∙ sym (ap (λ b. cond b (option_map f (shown (forest h.pages h.rows) (h.root ∷ p))) (shown (forest h.pages h.rows) (h.root ∷ p))) e)
    by (inr e) =
        ap (λ b. cond b (Some (f (copied_in h.pages w.row))) (shown (forest h.pages h.rows) (h.root ∷ p))) e
        ∙ sym (ap (λ b. cond b (option_map f (shown (forest h.pages h.rows) (h.root ∷ p))) (shown (forest h.pages h.rows) (h.root ∷ p))) e)

pub keys_written : (h : Held) (k : ℕ) (f : Copied → Copied) (pages : List PageValue) (rows : List Row) → IsPageWritten h.pages h.rows k f pages rows
    → keys_of (picked_tree (with_rows h pages rows)) ≡ keys_of (picked_tree h)
keys_written h k f pages rows w =
    keys_below h.root (forest pages rows) (forest h.pages h.rows)
    (keys_forest pages rows ∙ keys_kept h k f pages rows w ∙ sym (keys_forest h.pages h.rows))

-- the row of a page that is written
pub written_row : (pages : List PageValue) (rows : List Row) (k : ℕ) (f : Copied → Copied) (row row' : Row) (w : PageValue) → slice_get rows k ≡ Some row
    → AreApart (frames_of rows) → key_of row' ≡ key_of row → row'.frame ≡ row.frame → row.frame < length pages
    → copied_with row'.marks w ≡ f (copied_in pages row) → IsPageWritten pages rows k f (slice_set pages row.frame w) (slice_set rows k row')
written_row pages rows k f row row' w at apart key frame within is = record {
  row = row;
  row' = row';
  at = at;
  rows_are = refl;
  key = key;
  frame = frame;
  forest_is = write_own pages w rows k row row' at apart key frame within ∙ ap (λ c. slice_set (forest pages rows) k (key_of row, c)) is;
  many = length-set pages row.frame w;
}

-- ---- what is beside the picked root

pub eq_sym : (a b : ℕ) → nat_eq a b ≡ false → nat_eq b a ≡ false
eq_sym a b off = false_if (nat_eq b a) (λ on. sym off ∙ eq-eqb a b (sym (eqb-true b a on)))

-- the trees of other roots, where those of every other root stay
pub trees_same : (h j : Held) → h.root ≡ j.root → ((k : ℕ) → nat_eq k j.root ≡ false → tree_of h k ≡ tree_of j k) → (beside h).trees ≡ (beside j).trees
trees_same h j root same = λ i k. by k (told (nat_eq k j.root)) i
  where
    by : (k : ℕ) → (nat_eq k j.root ≡ true) ⊎ (nat_eq k j.root ≡ false)
        → cond (nat_eq k h.root) [] (tree_of h k) ≡ cond (nat_eq k j.root) [] (tree_of j k)
    by k (inl e) =
        ap (λ n. cond (nat_eq k n) [] (tree_of h k)) root
        ∙ ap (λ b. cond b [] (tree_of h k)) e
        ∙ sym (ap (λ b. cond b [] (tree_of j k)) e)
    by k (inr e) = ap (λ n. cond (nat_eq k n) [] (tree_of h k)) root ∙ ap (λ es. cond (nat_eq k j.root) [] es) (same k e)

pub beside_written : (h : Held) (k : ℕ) (f : Copied → Copied) (pages : List PageValue) (rows : List Row) (at : List ℕ)
    → IsFoundAt (map key_of h.rows) (h.root ∷ at) k → IsPageWritten h.pages h.rows k f pages rows
    → beside (with_rows h pages rows) ≡ beside h
beside_written h k f pages rows at found w =
    (λ i. record {
      root = h.root;
      trees = trees_same (with_rows h pages rows) h refl other i;
      more = more i;
      frames = many i + left h.run;
      pool = w.many i;
    })
  where
    here : slice_get (forest h.pages h.rows) k ≡ Some (entry_in h.pages w.row)
    here = slice_get-map (entry_in h.pages) h.rows k ∙ ap (option_map (entry_in h.pages)) w.at

    key : key_of w.row ≡ h.root ∷ at
    key = some_is (key_of w.row) (h.root ∷ at) (sym (slice_get-map key_of h.rows k ∙ ap (option_map key_of) w.at) ∙ found)
      where
        some_is : (x y : List ℕ) → Some x ≡ Some y → x ≡ y
        some_is x y e = cc e

    own : w.row.key.root ≡ h.root
    own = head_is w.row.key.path at w.row.key.root h.root key

    other : (n : ℕ) → nat_eq n h.root ≡ false → below n (forest pages rows) ≡ below n (forest h.pages h.rows)
    other n off =
        ap (below n) w.forest_is
        ∙ set_other n w.row.key.root w.row.key.path (f (copied_in h.pages w.row)) (ap (λ m. nat_eq m n) own ∙ eq_sym n h.root off) (forest h.pages h.rows) k (copied_in h.pages w.row) here

    more : more_rows h.root rows ≡ more_rows h.root h.rows
    more = ap (more_rows h.root) w.rows_are ∙ more_set h.root h.rows k w.row w.row' w.at (head_is w.row'.key.path w.row.key.path w.row'.key.root w.row.key.root w.key)

    many : length rows ≡ length h.rows
    many = ap length w.rows_are ∙ length-set h.rows k w.row'
