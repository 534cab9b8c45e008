-- What holds of the drafts of several roots, call by call.
use Rattle.std.proofs.Common.{◌≡◌, ◌≢◌, ℕ, zero, suc, ◌+◌, ◌-◌, ◌*◌, ◌<◌, ◌≤◌, true, false, cond, nat_eq, List, [], ◌∷◌, ◌++◌, length, ◌⊎◌, inl, inr, refl, sym, ap, subst, ◌∙◌, Some, None, Result, Err, IsOk, slice_set, length-append, eq-eqb, eqb-true, arith}
use Rattle.std.proofs.Math.ListN.{length-set}
use Rattle.std.specs.Prelude.{slice_get}
use Rattle.std.specs.Map.{keys_of}
use Rattle.tree_model.proofs.Paths.{told, false_if}
use Rattle.page_codec.specs.Values.{PageValue}
use Rattle.page_places.specs.Places.{same}
use Rattle.draft_model.specs.Views.{copies, live}
use Rattle.draft_model.specs.Steps.{begun, fed_page}
use Rattle.draft_model.specs.Told.{are_rising}
use Rattle.draft_model.specs.Entries.{Entry, shown}
use Rattle.draft_tree.specs.Drafts.{HasLevels}
use Rattle.draft_tree.specs.Pages.{put, Shows}
use Rattle.draft_tree.proofs.Kept.{top_begun, levels_begun, top_same, levels_same}
use Rattle.frame_pool.specs.Leasing.{Leased, left}
use Rattle.pool_draft.specs.declared.base.Base.{Base}
use Rattle.pool_draft.specs.Held.{Held, Beside, beside, picked_tree, tree_of, more_rows, space_of}
use Rattle.pool_draft.specs.Roots.{AreDrafts, IsRootBegun, other_drafts}
use Rattle.pool_draft.proofs.Putting.{count_rows}

-- ---- what a call of the picked draft leaves

pub others_same : (h j : Held) → beside j ≡ beside h → (k : ℕ) → nat_eq k h.root ≡ false → tree_of j k ≡ tree_of h k
others_same h j same k off =
    let root : j.root ≡ h.root = ap (λ (b : Beside). b.root) same in
    sym (ap (λ b. cond b [] (tree_of j k)) (ap (nat_eq k) root ∙ off))
    ∙ ap (λ (b : Beside). b.trees k) same
    ∙ ap (λ b. cond b [] (tree_of h k)) off

-- what holds of the picked root's pages and did of all roots' holds of all
each_after : (P : List Entry → Type 0) (h j : Held) → beside j ≡ beside h → P (picked_tree j) → (k : ℕ) → P (tree_of h k) → P (tree_of j k)
each_after P h j beside_is own k was = by (told (nat_eq k h.root))
  where
    by : (nat_eq k h.root ≡ true) ⊎ (nat_eq k h.root ≡ false) → P (tree_of j k)
    by (inl e) =
        let F : ℕ → Type 0 = λ n. P (tree_of j n) in
        subst F (ap (λ (b : Beside). b.root) beside_is ∙ sym (eqb-true k h.root e)) own
    by (inr e) = subst P (sym (others_same h j beside_is k e)) was

-- so many rows more, as the picked root has
rows_after : (h j : Held) (n : ℕ) → beside j ≡ beside h → length (picked_tree j) ≤ length (picked_tree h) + n → length j.rows ≤ length h.rows + n
rows_after h j n beside_is less =
    omega (arith, less, count_rows h.root h.pages h.rows, count_rows j.root j.pages j.rows, ap (λ (b : Beside). b.more) beside_is)

none_after : (h j : Held) (roots : ℕ) → beside j ≡ beside h → h.root < roots → ((k : ℕ) → roots ≤ k → length (tree_of h k) ≡ 0)
    → (k : ℕ) → roots ≤ k → length (tree_of j k) ≡ 0
none_after h j roots beside_is ready none k past =
    let off : nat_eq k h.root ≡ false = false_if (nat_eq k h.root) (λ e. absurd (omega (arith, eqb-true k h.root e, ready, past))) in
    ap length (others_same h j beside_is k off) ∙ none k past

-- the picked draft has at most n pages more, and the counts have gone on by as much
pub drafts_after : (h j : Held) (roots count fed count' fed' n : ℕ) → AreDrafts h roots count fed → h.root < roots → beside j ≡ beside h
    → are_rising (keys_of (picked_tree j)) ≡ true → live (copies (shown (picked_tree j))) [] ≡ true → HasLevels (shown (picked_tree j))
    → length (picked_tree j) ≤ length (picked_tree h) + n → n + (7 * count + fed) ≤ 7 * count' + fed'
    → AreDrafts j roots count' fed'
drafts_after h j roots count fed count' fed' n drafts ready beside_is order top levels less more = record {
  order = λ k below. each_after (λ es. are_rising (keys_of es) ≡ true) h j beside_is order k (drafts.order k below);
  top = λ k below. each_after (λ es. live (copies (shown es)) [] ≡ true) h j beside_is top k (drafts.top k below);
  levels = λ k below. each_after (λ es. HasLevels (shown es)) h j beside_is levels k (drafts.levels k below);
  small = λ k below. each_after (λ es. length es ≤ 1 + 7 * count' + fed') h j beside_is (omega (arith, less, more, drafts.small h.root ready)) k (omega (arith, more, drafts.small k below));
  none = none_after h j roots beside_is ready drafts.none;
  within = drafts.within;
  room = omega (arith, rows_after h j n beside_is less, drafts.room, more);
  frames = omega (arith, drafts.frames, ap (λ (b : Beside). b.frames) beside_is);
}

-- the picked draft has room for a page more
pub room_for : (h : Held) (roots count fed : ℕ) → AreDrafts h roots count fed → 7 * count + fed ≤ 902 → length (picked_tree h) < space_of (beside h)
room_for h roots count fed drafts few =
    omega (arith, drafts.room, drafts.frames, drafts.within, few, count_rows h.root h.pages h.rows)

-- a call that cannot be refused was not
pub not_refused : {T E : Type 0} (r : Result T E) (e : E) → IsOk r → r ≡ Err e → ⊥
not_refused {T} {E} r e ok is = refused (subst F is ok)
  where
    F : Result T E → Type 0
    F x = IsOk x

    refused : F (Err e) → ⊥
    refused h = cc h

-- ---- a root more

pub drafts_over : (pages : List PageValue) (run : Leased) (root : ℕ) → 921 ≤ left run
    → AreDrafts (record { pages = pages; rows = []; run = run; root = root }) 0 0 0
drafts_over pages run root enough = record {
  order = λ k below. absurd (omega (arith, below));
  top = λ k below. absurd (omega (arith, below));
  levels = λ k below. absurd (omega (arith, below));
  small = λ k below. absurd (omega (arith, below));
  none = λ k past. refl;
  within = omega arith;
  room = omega arith;
  frames = omega (arith, enough);
}

true_false : true ≡ false → ⊥
true_false h = cc h

is_last : (k roots : ℕ) → k < roots + 1 → (nat_eq k roots ≡ true) ⊎ ((nat_eq k roots ≡ false) × (k < roots))
is_last k roots below = by (told (nat_eq k roots))
  where
    by : (nat_eq k roots ≡ true) ⊎ (nat_eq k roots ≡ false) → (nat_eq k roots ≡ true) ⊎ ((nat_eq k roots ≡ false) × (k < roots))
    by (inl e) = inl e
    by (inr e) =
        let off : k ≢ roots = λ is. true_false (sym (eq-eqb k roots is) ∙ e) in
        inr (e, omega (arith, off, below))

-- what holds of the pages of the last root, and did of those of all others, holds of all
each_added : (P : List Entry → Type 0) (h j : Held) (roots : ℕ) → ((k : ℕ) → nat_eq k roots ≡ false → tree_of j k ≡ tree_of h k) → P (tree_of j roots)
    → ((k : ℕ) → k < roots → P (tree_of h k)) → (k : ℕ) → k < roots + 1 → P (tree_of j k)
each_added P h j roots others own was k below = by (is_last k roots below)
  where
    by : (nat_eq k roots ≡ true) ⊎ ((nat_eq k roots ≡ false) × (k < roots)) → P (tree_of j k)
    by (inl e) = let F : ℕ → Type 0 = λ n. P (tree_of j n) in subst F (sym (eqb-true k roots e)) own
    by (inr e) = subst P (sym (others k e.0)) (was k e.1)

pub drafts_added : (h j : Held) (roots count fed : ℕ) (page : PageValue) → AreDrafts h roots count fed → roots < 17 → page.level ≡ 0
    → IsRootBegun h roots page j → AreDrafts j (roots + 1) count fed
drafts_added h j roots count fed page drafts fewer level w = record {
  order = each_added (λ es. are_rising (keys_of es) ≡ true) h j roots w.others w.order drafts.order;
  top = each_added (λ es. live (copies (shown es)) [] ≡ true) h j roots w.others (top_same (begun page) (shown (tree_of j roots)) w.begins (top_begun page)) drafts.top;
  levels = each_added (λ es. HasLevels (shown es)) h j roots w.others (levels_same (begun page) (shown (tree_of j roots)) w.begins (levels_begun page level)) drafts.levels;
  small = each_added (λ es. length es ≤ 1 + 7 * count + fed) h j roots w.others (omega (arith, w.small)) drafts.small;
  none = λ k past.
      let off : nat_eq k roots ≡ false = false_if (nat_eq k roots) (λ e. absurd (omega (arith, eqb-true k roots e, past))) in
      ap length (w.others k off) ∙ drafts.none k (omega (arith, past));
  within = omega (arith, fewer);
  room = omega (arith, w.rows, drafts.room);
  frames = omega (arith, w.frames, drafts.frames);
}

with_root : Held → ℕ → Held
with_root h root = record { pages = h.pages; rows = h.rows; run = h.run; root = root }

nothing_shown : (es : List Entry) (p : List ℕ) → length es ≡ 0 → shown es p ≡ None
nothing_shown [] p h = refl
nothing_shown (e ∷ es) p h = absurd (omega (arith, h))

-- a root that has no pages has room for one
pub room_begun : (h : Held) (root : ℕ) → length (tree_of h root) ≡ 0 → 0 < left h.run
    → length (tree_of h root) < (length h.rows + left h.run) - more_rows root h.rows
room_begun h root none room = omega (arith, none, room, count_rows root h.pages h.rows)

pub root_begun : (h : Held) (root : ℕ) (page : PageValue) (j : Held) → length (tree_of h root) ≡ 0
    → beside j ≡ beside (record { pages = h.pages; rows = h.rows; run = h.run; root = root })
    → Shows (picked_tree j) (put (shown (tree_of h root)) [] (fed_page page)) → length (picked_tree j) ≤ length (tree_of h root) + 1
    → are_rising (keys_of (picked_tree j)) ≡ true
    → IsRootBegun h root page (record { pages = j.pages; rows = j.rows; run = j.run; root = h.root })
unfolding with_root
root_begun h root page j none beside_is shows less rising =
    let at : j.root ≡ root = ap (λ (b : Beside). b.root) beside_is in
    let F : ℕ → Type 0 = λ n. are_rising (keys_of (tree_of j n)) ≡ true in
    let G : ℕ → Type 0 = λ n. length (tree_of j n) ≤ 1 in
    record {
      begins = λ p.
          ap (λ n. shown (tree_of j n) p) (sym at)
          ∙ shows p
          ∙ ap (λ o. cond (same p []) (Some (fed_page page)) o) (nothing_shown (tree_of h root) p none);
      order = subst F at rising;
      small = subst G at (omega (arith, less, none));
      others = λ k off. others_same (with_root h root) j beside_is k off;
      rows = rows_after (with_root h root) j 1 beside_is less;
      frames = ap (λ (b : Beside). b.frames) beside_is;
      picked = refl;
    }

-- ---- the versions of the roots

set_own : (xs : List Base) (k : ℕ) (b : Base) → k < length xs → slice_get (slice_set xs k b) k ≡ Some b
set_own [] k b within = absurd (omega (arith, within))
set_own (x ∷ xs) zero b within = refl
set_own (x ∷ xs) (suc k) b within = set_own xs k b (omega (arith, within))

set_other : (xs : List Base) (k n : ℕ) (b : Base) → n ≢ k → slice_get (slice_set xs k b) n ≡ slice_get xs n
set_other [] k n b off = refl
set_other (x ∷ xs) zero zero b off = absurd (off refl)
set_other (x ∷ xs) zero (suc n) b off = refl
set_other (x ∷ xs) (suc k) zero b off = refl
set_other (x ∷ xs) (suc k) (suc n) b off = set_other xs k n b (λ e. off (ap suc e))

-- the picked root has the version that was put there
pub base_put : (xs ys : List Base) (k : ℕ) (b : Base) (h j : Held) → ys ≡ slice_set xs k b → k ≡ h.root → beside j ≡ beside h → h.root < length xs
    → slice_get ys j.root ≡ Some b
base_put xs ys k b h j is own beside_is ready =
    (λ i. slice_get (is i) ((ap (λ (x : Beside). x.root) beside_is ∙ sym own) i))
    ∙ set_own xs k b (omega (arith, own, ready))

-- .. and all others have theirs
pub others_put : (xs ys : List Base) (k : ℕ) (b : Base) (h j : Held) → ys ≡ slice_set xs k b → k ≡ h.root → beside j ≡ beside h
    → other_drafts ys (beside j) ≡ other_drafts xs (beside h)
others_put xs ys k b h j is own beside_is =
    λ i. record {
      pages = beside_is i;
      bases = λ n. by n (told (nat_eq n h.root)) i;
      roots = (ap length is ∙ length-set xs k b) i;
    }
  where
    root : j.root ≡ h.root
    root = ap (λ (x : Beside). x.root) beside_is

    by : (n : ℕ) → (nat_eq n h.root ≡ true) ⊎ (nat_eq n h.root ≡ false)
        → cond (nat_eq n j.root) None (slice_get ys n) ≡ cond (nat_eq n h.root) None (slice_get xs n)
    by n (inl e) =
        ap (λ c. cond c None (slice_get ys n)) (ap (nat_eq n) root ∙ e)
        ∙ sym (ap (λ c. cond c None (slice_get xs n)) e)
    by n (inr e) =
        (λ i. cond (nat_eq n (root i)) None (slice_get (is i) n))
        ∙ ap (cond (nat_eq n h.root) None) (set_other xs k n b (λ is_own. true_false (sym (eq-eqb n h.root (is_own ∙ own)) ∙ e)))

-- one version more
base_front : (xs : List Base) (b : Base) (k : ℕ) → k < length xs → slice_get (xs ++ b ∷ []) k ≡ slice_get xs k
base_front [] b k within = absurd (omega (arith, within))
base_front (x ∷ xs) b zero within = refl
base_front (x ∷ xs) b (suc k) within = base_front xs b k (omega (arith, within))

base_last : (xs : List Base) (b : Base) → slice_get (xs ++ b ∷ []) (length xs) ≡ Some b
base_last [] b = refl
base_last (x ∷ xs) b = base_last xs b

pub base_kept : (xs ys : List Base) (b : Base) → ys ≡ xs ++ b ∷ [] → (k : ℕ) → k < length xs → slice_get ys k ≡ slice_get xs k
base_kept xs ys b is k within = ap (λ zs. slice_get zs k) is ∙ base_front xs b k within

pub base_new : (xs ys : List Base) (b : Base) → ys ≡ xs ++ b ∷ [] → slice_get ys (length xs) ≡ Some b
base_new xs ys b is = ap (λ zs. slice_get zs (length xs)) is ∙ base_last xs b

pub bases_more : (xs ys : List Base) (b : Base) → ys ≡ xs ++ b ∷ [] → length ys ≡ length xs + 1
bases_more xs ys b is = ap length is ∙ length-append xs (b ∷ [])
