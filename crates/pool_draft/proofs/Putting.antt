-- A row is put: what holds of the rows still does, the picked root shows the page, and all beside it stays.
use Rattle.std.proofs.Common.{◌≡◌, ℕ, suc, ◌+◌, ◌-◌, ◌<◌, ◌≤◌, Bool, true, false, cond, nat_eq, List, [], ◌∷◌, length, map, Some, ◌⊎◌, inl, inr, option_map, slice_set, refl, sym, ap, subst, ◌∙◌, eq-eqb, get_or-set_same, arith}
use Rattle.std.proofs.Math.ListN.{length-set}
use Rattle.std.proofs.lemmas.List.Edits.{length-insert}
use Rattle.std.specs.List.{insert}
use Rattle.std.specs.List.Sorted.{IsStrictlySortedBy}
use Rattle.std.specs.Ordering.{is_eq}
use Rattle.std.specs.Map.{keys_of}
use Rattle.afs_base.specs.Path.{path_cmp}
use Rattle.tree_model.proofs.Paths.{told, same_is}
use Rattle.page_codec.specs.Values.{PageValue}
use Rattle.page_places.specs.Places.{same}
use Rattle.page_codec.specs.Blank.{empty_page}
use Rattle.draft_model.specs.Views.{Copied, View}
use Rattle.draft_model.specs.Entries.{Entry, shown}
use Rattle.draft_model.proofs.Entries.{IsInOrder}
use Rattle.draft_tree.specs.Pages.{changed, put, Shows}
use Rattle.draft_tree.specs.Marking.{copied_with}
use Rattle.frame_pool.specs.Leasing.{Leased, left, taken_out, IsIn, IsOut}
use Rattle.pool_draft.specs.declared.row.Row.{Row}
use Rattle.pool_draft.specs.Forest.{below}
use Rattle.pool_draft.specs.Held.{Held, IsHeld, beside, picked_tree, more_rows}
use Rattle.pool_draft.specs.Rows.{key_of, copied_in, entry_in, forest, frames_of, AreApart, AreAllOut, AreShort}
use Rattle.pool_draft.specs.Seeking.{AreBefore, IsBehind, IsGapAt}
use Rattle.pool_draft.specs.Writes.{IsRowPut}
use Rattle.pool_draft.proofs.Below.{shown_below, insert_other, insert_own, cmp_own}
use Rattle.pool_draft.proofs.Entries.{put_shown, put_order}
use Rattle.pool_draft.proofs.Looks.{forest_order}
use Rattle.pool_draft.proofs.Rows.{keys_forest, write_apart, map_insert, all_insert, all_map, apart_insert, in_off, out_taken, taken_is_out, more_insert}
use Rattle.pool_draft.proofs.Written.{trees_same, eq_sym}

-- with these pages, rows and frames that are out
abbrev pub with_run : Held → List PageValue → List Row → Leased → Held
with_run h pages rows run = record { pages = pages; rows = rows; run = run; root = h.root }

tail_is : (x y : List ℕ) (a b : ℕ) → a ∷ x ≡ b ∷ y → x ≡ y
tail_is x y a b h = cc h

head_is : (x y : List ℕ) (a b : ℕ) → a ∷ x ≡ b ∷ y → a ≡ b
head_is x y a b h = cc h

before : (h : Held) (k : ℕ) (key : List ℕ) → IsGapAt (map key_of h.rows) key k → AreBefore key (keys_of (forest h.pages h.rows)) k
before h k key gap = let B : List (List ℕ) → Type 0 = λ ks. AreBefore key ks k in subst B (sym (keys_forest h.pages h.rows)) gap.0

behind : (h : Held) (k : ℕ) (key : List ℕ) → IsGapAt (map key_of h.rows) key k → IsBehind key (keys_of (forest h.pages h.rows)) k
behind h k key gap = let B : List (List ℕ) → Type 0 = λ ks. IsBehind key ks k in subst B (sym (keys_forest h.pages h.rows)) gap.1

pub held_put : (h : Held) (k : ℕ) (at : List ℕ) (c : Copied) (pages : List PageValue) (rows : List Row) (run : Leased) → IsHeld h → k ≤ length h.rows
    → length at ≤ 7 → IsGapAt (map key_of h.rows) (h.root ∷ at) k → IsRowPut h.pages h.run h.rows k (h.root ∷ at) c pages run rows
    → IsHeld (with_run h pages rows run)
held_put h k at c pages rows run held place long gap w = record {
  ordered = subst O (keys_forest pages rows) (subst E (sym w.forest_is) order);
  apart = subst A (sym frames) (apart_insert (frames_of h.rows) k w.row.frame (in_off h.run w.row.frame w.home (frames_of h.rows) held.out) held.apart);
  out = subst B (sym w.run_is) (subst C (sym frames) (all_insert (IsOut (taken_out h.run w.row.frame)) (frames_of h.rows) k w.row.frame (taken_is_out h.run w.row.frame w.home)
      (all_map (IsOut h.run) (IsOut (taken_out h.run w.row.frame)) (λ g. out_taken h.run w.row.frame g) (frames_of h.rows) held.out)));
  short = subst S (sym w.rows_are) (all_insert (λ (r : Row). length r.key.path ≤ 7) h.rows k w.row (omega (arith, long, ap length (tail_is w.row.key.path at w.row.key.root h.root w.key))) held.short);
  of = omega (arith, held.of, w.many, ap (λ (l : Leased). l.first) w.run_is, ap (λ (l : Leased). length l.taken) w.run_is, length-set h.run.taken (w.row.frame - h.run.first) true);
  room = omega (arith, held.room, w.left_is, ap length w.rows_are, length-insert h.rows k w.row place);
}
  where
    O : List (List ℕ) → Type 0
    O ks = IsStrictlySortedBy path_cmp ks

    E : List Entry → Type 0
    E es = IsStrictlySortedBy path_cmp (keys_of es)

    A : List ℕ → Type 0
    A fs = AreApart fs

    B : Leased → Type 0
    B l = AreAllOut l (frames_of rows)

    C : List ℕ → Type 0
    C fs = AreAllOut (taken_out h.run w.row.frame) fs

    S : List Row → Type 0
    S rs = AreShort rs

    frames : frames_of rows ≡ insert (frames_of h.rows) k w.row.frame
    frames = ap (λ (rs : List Row). frames_of rs) w.rows_are ∙ map_insert (λ (r : Row). r.frame) h.rows k w.row

    order : IsInOrder (insert (forest h.pages h.rows) k (h.root ∷ at, c))
    order = put_order (forest h.pages h.rows) k (h.root ∷ at) c (forest_order h.pages h.rows held.ordered) (before h k (h.root ∷ at) gap) (behind h k (h.root ∷ at) gap)

pub shown_put : (h : Held) (k : ℕ) (at : List ℕ) (c : Copied) (pages : List PageValue) (rows : List Row) (run : Leased)
    → IsGapAt (map key_of h.rows) (h.root ∷ at) k → IsRowPut h.pages h.run h.rows k (h.root ∷ at) c pages run rows
    → Shows (picked_tree (with_run h pages rows run)) (put (shown (picked_tree h)) at c)
shown_put h k at c pages rows run gap w p =
    shown_below h.root (forest pages rows) p
    ∙ ap (λ es. shown es (h.root ∷ p)) w.forest_is
    ∙ put_shown (forest h.pages h.rows) k (h.root ∷ at) c (before h k (h.root ∷ at) gap) (h.root ∷ p)
    ∙ ap (λ o. cond (is_eq o) (Some c) (shown (forest h.pages h.rows) (h.root ∷ p))) (cmp_own h.root p at)
    ∙ ap (λ o. cond (same p at) (Some c) o) (sym (shown_below h.root (forest h.pages h.rows) p))

pub length_put : (h : Held) (k : ℕ) (at : List ℕ) (c : Copied) (pages : List PageValue) (rows : List Row) (run : Leased)
    → IsRowPut h.pages h.run h.rows k (h.root ∷ at) c pages run rows → length (picked_tree (with_run h pages rows run)) ≡ length (picked_tree h) + 1
length_put h k at c pages rows run w = ap (λ es. length (below h.root es)) w.forest_is ∙ insert_own h.root at c (forest h.pages h.rows) k

pub beside_put : (h : Held) (k : ℕ) (at : List ℕ) (c : Copied) (pages : List PageValue) (rows : List Row) (run : Leased) → k ≤ length h.rows
    → IsRowPut h.pages h.run h.rows k (h.root ∷ at) c pages run rows → beside (with_run h pages rows run) ≡ beside h
beside_put h k at c pages rows run place w =
    (λ i. record {
      root = h.root;
      trees = trees_same (with_run h pages rows run) h refl other i;
      more = more i;
      frames = frames i;
      pool = w.many i;
    })
  where
    other : (n : ℕ) → nat_eq n h.root ≡ false → below n (forest pages rows) ≡ below n (forest h.pages h.rows)
    other n off = ap (below n) w.forest_is ∙ insert_other n h.root at c (eq_sym n h.root off) (forest h.pages h.rows) k

    more : more_rows h.root rows ≡ more_rows h.root h.rows
    more = ap (more_rows h.root) w.rows_are ∙ more_insert h.root h.rows k w.row (eq-eqb w.row.key.root h.root (head_is w.row.key.path at w.row.key.root h.root w.key))

    frames : length rows + left run ≡ length h.rows + left h.run
    frames = omega (arith, w.left_is, ap length w.rows_are, length-insert h.rows k w.row place)

-- ---- how many rows there are

pub count_rows : (root : ℕ) (pages : List PageValue) (rows : List Row) → more_rows root rows + length (below root (forest pages rows)) ≡ length rows
count_rows root pages [] = refl
count_rows root pages (r ∷ rows) = by (nat_eq r.key.root root) (count_rows root pages rows)
  where
    by : (b : Bool) → more_rows root rows + length (below root (forest pages rows)) ≡ length rows
        → cond b (more_rows root rows) (suc (more_rows root rows)) + length (cond b ((r.key.path, (entry_in pages r).1) ∷ below root (forest pages rows)) (below root (forest pages rows))) ≡ suc (length rows)
    by true h = omega (arith, h)
    by false h = omega (arith, h)

-- where the picked root has room, the lease has a frame left
pub room_left : (h : Held) → length (picked_tree h) < (length h.rows + left h.run) - more_rows h.root h.rows → left h.run ≡ 0 → ⊥
room_left h room none = absurd (omega (arith, room, none, count_rows h.root h.pages h.rows))

-- ---- the row of a page that is put

pub row_put : (pages : List PageValue) (run : Leased) (rows : List Row) (k : ℕ) (at : List ℕ) (c : Copied) (row : Row) (run' : Leased) → IsIn run row.frame
    → run' ≡ taken_out run row.frame → left run' + 1 ≡ left run → key_of row ≡ at → copied_with row.marks c.page ≡ c → AreAllOut run (frames_of rows)
    → row.frame < length pages → IsRowPut pages run rows k at c (slice_set pages row.frame c.page) run' (insert rows k row)
row_put pages run rows k at c row run' home run_is less key is out within = record {
  row = row;
  rows_are = refl;
  key = key;
  home = home;
  run_is = run_is;
  left_is = less;
  forest_is =
      map_insert (entry_in (slice_set pages row.frame c.page)) rows k row
      ∙ (λ i. insert (write_apart pages row.frame c.page rows (in_off run row.frame home (frames_of rows) out) i) k (key i, own i));
  many = length-set pages row.frame c.page;
}
  where
    own : copied_in (slice_set pages row.frame c.page) row ≡ c
    own = ap (λ page. copied_with row.marks page) (get_or-set_same pages row.frame c.page (empty_page 0) within) ∙ is

-- a page that is put where one stands
pub over_put : (d : View) (q p : List ℕ) (c x : Copied) → d q ≡ Some x → changed d q (λ _. c) p ≡ put d q c p
over_put d q p c x at = by (told (same p q))
  where
    by : (same p q ≡ true) ⊎ (same p q ≡ false) → cond (same p q) (option_map (λ (y : Copied). c) (d p)) (d p) ≡ cond (same p q) (Some c) (d p)
    by (inl e) =
        ap (λ b. cond b (option_map (λ (y : Copied). c) (d p)) (d p)) e
        ∙ ap (option_map (λ (y : Copied). c)) (ap d (same_is p q e) ∙ at)
        ∙ sym (ap (λ b. cond b (Some c) (d p)) e)
    by (inr e) = ap (λ b. cond b (option_map (λ (y : Copied). c) (d p)) (d p)) e ∙ sym (ap (λ b. cond b (Some c) (d p)) e)
