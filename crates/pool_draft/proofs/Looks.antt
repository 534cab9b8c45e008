-- What a row shows of the picked root.
use Rattle.std.proofs.Common.{◌≡◌, ℕ, ◌<◌, ◌≤◌, true, false, cond, List, [], ◌∷◌, length, map, ◌⊎◌, inl, inr, refl, sym, ap, subst, ◌∙◌, Option, Some, None, option_map, is_some, arith}
use Rattle.std.proofs.lemmas.Option.{slice_get-map}
use Rattle.std.specs.Prelude.{slice_get}
use Rattle.std.specs.List.Sorted.{IsStrictlySortedBy}
use Rattle.afs_base.specs.Path.{path_cmp}
use Rattle.tree_model.proofs.Paths.{told, same_is}
use Rattle.page_codec.specs.Values.{PageValue}
use Rattle.page_places.specs.Places.{same}
use Rattle.draft_model.specs.Views.{Copied}
use Rattle.draft_model.specs.Entries.{shown}
use Rattle.draft_model.proofs.Entries.{IsInOrder}
use Rattle.draft_tree.specs.Pages.{IsShort}
use Rattle.pool_draft.specs.declared.row.Row.{Row}
use Rattle.pool_draft.specs.Held.{Held, IsHeld, picked_tree}
use Rattle.frame_pool.specs.Leasing.{Leased, left, IsOf, IsOut}
use Rattle.pool_draft.specs.Rows.{key_of, copied_in, entry_in, forest, frames_of, AreShort}
use Rattle.pool_draft.specs.Seeking.{AreBefore, IsBehind, IsFoundAt, IsGapAt}
use Rattle.pool_draft.proofs.Below.{shown_below}
use Rattle.pool_draft.proofs.Entries.{found_shown, gap_shown}
use Rattle.pool_draft.proofs.Rows.{keys_forest, all_here}

pub forest_order : (pages : List PageValue) (rows : List Row) → IsStrictlySortedBy path_cmp (map key_of rows) → IsInOrder (forest pages rows)
forest_order pages rows order =
    let P : List (List ℕ) → Type 0 = λ ks. IsStrictlySortedBy path_cmp ks in
    subst P (sym (keys_forest pages rows)) order

some_key : (x y : List ℕ) → Some x ≡ Some y → x ≡ y
some_key x y h = cc h

some_copied : (x y : Copied) → Some x ≡ Some y → x ≡ y
some_copied x y h = cc h

-- the row at a place, and its page
pub look_found : (h : Held) (k : ℕ) (p : List ℕ) (c : Copied) → IsHeld h → IsFoundAt (map key_of h.rows) (h.root ∷ p) k
    → option_map (copied_in h.pages) (slice_get h.rows k) ≡ Some c → shown (picked_tree h) p ≡ Some c
look_found h k p c held key at = shown_below h.root (forest h.pages h.rows) p ∙ by (slice_get h.rows k) refl at
  where
    by : (o : Option Row) → slice_get h.rows k ≡ o → option_map (copied_in h.pages) o ≡ Some c → shown (forest h.pages h.rows) (h.root ∷ p) ≡ Some c
    by None e g = absurd (cc g)
    by (Some r) e g =
        let is : key_of r ≡ h.root ∷ p = some_key (key_of r) (h.root ∷ p) (sym (slice_get-map key_of h.rows k ∙ ap (option_map key_of) e) ∙ key) in
        ap (shown (forest h.pages h.rows)) (sym is)
        ∙ found_shown (forest h.pages h.rows) k (entry_in h.pages r) (forest_order h.pages h.rows held.ordered)
        (slice_get-map (entry_in h.pages) h.rows k ∙ ap (option_map (entry_in h.pages)) e)
        ∙ ap (λ (x : Copied). Some x) (some_copied (copied_in h.pages r) c g)

-- no row
pub look_gap : (h : Held) (k : ℕ) (p : List ℕ) → IsHeld h → IsGapAt (map key_of h.rows) (h.root ∷ p) k → shown (picked_tree h) p ≡ None
look_gap h k p held gap =
    let B : List (List ℕ) → Type 0 = λ ks. AreBefore (h.root ∷ p) ks k in
    let C : List (List ℕ) → Type 0 = λ ks. IsBehind (h.root ∷ p) ks k in
    let keys = keys_forest h.pages h.rows in
    shown_below h.root (forest h.pages h.rows) p
    ∙ gap_shown (forest h.pages h.rows) k (h.root ∷ p) (forest_order h.pages h.rows held.ordered) (subst B (sym keys) gap.0) (subst C (sym keys) gap.1)

-- no path has more than seven slots
short_forest : (pages : List PageValue) (rows : List Row) → AreShort rows → (root : ℕ) (p : List ℕ) → 7 < length p → is_some (shown (forest pages rows) (root ∷ p)) ≡ false
short_forest pages [] short root p long = refl
short_forest pages (r ∷ rows) short root p long = by (told (same (root ∷ p) (key_of r))) (short_forest pages rows short.1 root p long)
  where
    tail_is : (x y : ℕ) (xs ys : List ℕ) → x ∷ xs ≡ y ∷ ys → xs ≡ ys
    tail_is x y xs ys h = cc h

    by : (same (root ∷ p) (key_of r) ≡ true) ⊎ (same (root ∷ p) (key_of r) ≡ false) → is_some (shown (forest pages rows) (root ∷ p)) ≡ false
        → is_some (cond (same (root ∷ p) (key_of r)) (Some (copied_in pages r)) (shown (forest pages rows) (root ∷ p))) ≡ false
    by (inl e) rest =
        let is : length p ≡ length r.key.path = ap length (tail_is root r.key.root p r.key.path (same_is (root ∷ p) (key_of r) e)) in
        absurd (omega (arith, is, long, short.0))
    by (inr e) rest = ap (λ b. is_some (cond b (Some (copied_in pages r)) (shown (forest pages rows) (root ∷ p)))) e ∙ rest

pub look_short : (h : Held) → IsHeld h → IsShort (picked_tree h)
look_short h held p long = ap is_some (shown_below h.root (forest h.pages h.rows) p) ∙ short_forest h.pages h.rows held.short h.root p long

-- ---- frames

-- the frame of a row is one of the pool
pub frame_within : (h : Held) → IsHeld h → (k : ℕ) (r : Row) → slice_get h.rows k ≡ Some r → r.frame < length h.pages
frame_within h held k r at =
    let out : IsOut h.run r.frame = all_here (IsOut h.run) (frames_of h.rows) k r.frame held.out (slice_get-map (λ (x : Row). x.frame) h.rows k ∙ ap (option_map (λ (x : Row). x.frame)) at) in
    omega (arith, out.below, held.of)

pub frame_out : (h : Held) → IsHeld h → (k : ℕ) (r : Row) → slice_get h.rows k ≡ Some r → IsOut h.run r.frame
frame_out h held k r at =
    all_here (IsOut h.run) (frames_of h.rows) k r.frame held.out (slice_get-map (λ (x : Row). x.frame) h.rows k ∙ ap (option_map (λ (x : Row). x.frame)) at)

-- ---- no rows yet, and the same rows

pub held_empty : (pages : List PageValue) (run : Leased) (root : ℕ) → IsOf run (length pages) → left run ≤ 1024
    → IsHeld (record { pages = pages; rows = []; run = run; root = root })
unfolding IsStrictlySortedBy
held_empty pages run root of few = record { ordered = tt; apart = tt; out = tt; short = tt; of = of; room = omega (arith, few) }

pub held_as : (h j : Held) → h.pages ≡ j.pages → h.rows ≡ j.rows → h.run ≡ j.run → h.root ≡ j.root → IsHeld h → IsHeld j
held_as h j pages rows run root held =
    let F : Held → Type 0 = λ x. IsHeld x in
    let same : h ≡ j = (λ i. record { pages = pages i; rows = rows i; run = run i; root = root i }) in
    subst F same held

pub same_held : (h j : Held) → h.pages ≡ j.pages → h.rows ≡ j.rows → h.run ≡ j.run → h.root ≡ j.root → h ≡ j
same_held h j pages rows run root = (λ i. record { pages = pages i; rows = rows i; run = run i; root = root i })
