-- Pages of a root are taken away: what holds of the rows still does, the picked root shows it, and all beside it stays.
use Rattle.std.proofs.Common.{◌≡◌, ℕ, suc, ◌+◌, Bool, true, false, ◌&&◌, cond, nat_eq, List, [], ◌∷◌, length, map, ◌⊎◌, inl, inr, refl, sym, ap, subst, ◌∙◌, option_map, slice_index_or, eq-eqb, eqb-true, arith}
use Rattle.std.proofs.lemmas.List.{length-map}
use Rattle.std.specs.Map.{keys_of}
use Rattle.std.specs.List.Sorted.{IsStrictlySortedBy}
use Rattle.afs_base.specs.Path.{path_cmp, is_prefix}
use Rattle.tree_model.proofs.Paths.{told}
use Rattle.page_codec.specs.Values.{PageValue}
use Rattle.page_codec.specs.Blank.{empty_page}
use Rattle.draft_model.specs.Views.{Copied}
use Rattle.draft_model.specs.Entries.{Entry, shown}
use Rattle.draft_tree.specs.Marking.{copied_with, taken_away}
use Rattle.draft_tree.specs.Pages.{cut_below, Shows}
use Rattle.draft_tree.proofs.PageFacts.{shown_map, cut_is}
use Rattle.frame_pool.specs.Leasing.{left}
use Rattle.pool_draft.specs.declared.row.Row.{Row}
use Rattle.pool_draft.specs.Forest.{below}
use Rattle.pool_draft.specs.Held.{Held, IsHeld, beside, picked_tree, more_rows}
use Rattle.pool_draft.specs.Rows.{key_of, copied_in, forest, frames_of, AreApart, AreAllOut, AreShort}
use Rattle.pool_draft.specs.Writes.{marks_away, cut_row}
use Rattle.pool_draft.proofs.Below.{shown_below, keys_below}
use Rattle.pool_draft.proofs.Rows.{keys_forest}
use Rattle.pool_draft.proofs.Written.{with_rows, trees_same, eq_sym}

away : ℕ → List ℕ → List ℕ → Copied → Copied
away root at key c = cond (is_prefix (root ∷ at) key) (taken_away c) c

keys_cut : (root : ℕ) (at : List ℕ) (rows : List Row) → map key_of (map (cut_row root at) rows) ≡ map key_of rows
keys_cut root at [] = refl
keys_cut root at (r ∷ rows) = ap (λ ks. key_of r ∷ ks) (keys_cut root at rows)

frames_cut : (root : ℕ) (at : List ℕ) (rows : List Row) → frames_of (map (cut_row root at) rows) ≡ frames_of rows
frames_cut root at [] = refl
frames_cut root at (r ∷ rows) = ap (λ fs. r.frame ∷ fs) (frames_cut root at rows)

short_cut : (root : ℕ) (at : List ℕ) (rows : List Row) → AreShort rows → AreShort (map (cut_row root at) rows)
short_cut root at [] short = tt
short_cut root at (r ∷ rows) short = (short.0, short_cut root at rows short.1)

more_cut : (own root : ℕ) (at : List ℕ) (rows : List Row) → more_rows own (map (cut_row root at) rows) ≡ more_rows own rows
more_cut own root at [] = refl
more_cut own root at (r ∷ rows) = ap (λ n. cond (nat_eq r.key.root own) n (suc n)) (more_cut own root at rows)

pub held_cut : (h : Held) (at : List ℕ) → IsHeld h → IsHeld (with_rows h h.pages (map (cut_row h.root at) h.rows))
held_cut h at held =
    let O : List (List ℕ) → Type 0 = λ ks. IsStrictlySortedBy path_cmp ks in
    let A : List ℕ → Type 0 = λ fs. AreApart fs in
    let B : List ℕ → Type 0 = λ fs. AreAllOut h.run fs in
    record {
      ordered = subst O (sym (keys_cut h.root at h.rows)) held.ordered;
      apart = subst A (sym (frames_cut h.root at h.rows)) held.apart;
      out = subst B (sym (frames_cut h.root at h.rows)) held.out;
      short = short_cut h.root at h.rows held.short;
      of = held.of;
      room = omega (arith, held.room, length-map h.rows (cut_row h.root at));
    }

forest_cut : (root : ℕ) (at : List ℕ) (pages : List PageValue) (rows : List Row)
    → forest pages (map (cut_row root at) rows) ≡ map (λ (e : Entry). (e.0, away root at e.0 e.1)) (forest pages rows)
unfolding away
forest_cut root at pages [] = refl
forest_cut root at pages (r ∷ rows) = (λ i. (key_of r, here (is_prefix (root ∷ at) (key_of r)) i) ∷ forest_cut root at pages rows i)
  where
    here : (b : Bool) → copied_with (cond b (marks_away r.marks) r.marks) (slice_index_or pages r.frame (empty_page 0))
        ≡ cond b (taken_away (copied_in pages r)) (copied_in pages r)
    here true = refl
    here false = refl

pub shown_cut : (h : Held) (at : List ℕ) → Shows (picked_tree (with_rows h h.pages (map (cut_row h.root at) h.rows))) (cut_below (shown (picked_tree h)) at)
unfolding away
shown_cut h at p =
    shown_below h.root (forest h.pages (map (cut_row h.root at) h.rows)) p
    ∙ ap (λ es. shown es (h.root ∷ p)) (forest_cut h.root at h.pages h.rows)
    ∙ shown_map (away h.root at) (forest h.pages h.rows) (h.root ∷ p)
    ∙ cut_is (shown (forest h.pages h.rows)) (h.root ∷ at) (h.root ∷ p)
    ∙ ap (λ b. cond (b && is_prefix at p) (option_map taken_away (shown (forest h.pages h.rows) (h.root ∷ p))) (shown (forest h.pages h.rows) (h.root ∷ p))) (eq-eqb h.root h.root refl)
    ∙ ap (λ o. cond (is_prefix at p) (option_map taken_away o) o) (sym (shown_below h.root (forest h.pages h.rows) p))

-- a root's pages, where those of another root are taken away
cut_other : (own root : ℕ) (at : List ℕ) (pages : List PageValue) → nat_eq root own ≡ false → (rows : List Row)
    → below own (forest pages (map (cut_row root at) rows)) ≡ below own (forest pages rows)
cut_other own root at pages off [] = refl
cut_other own root at pages off (r ∷ rows) = by (told (nat_eq r.key.root own)) (cut_other own root at pages off rows)
  where
    by : (nat_eq r.key.root own ≡ true) ⊎ (nat_eq r.key.root own ≡ false)
        → below own (forest pages (map (cut_row root at) rows)) ≡ below own (forest pages rows)
        → cond (nat_eq r.key.root own) ((r.key.path, copied_in pages (cut_row root at r)) ∷ below own (forest pages (map (cut_row root at) rows))) (below own (forest pages (map (cut_row root at) rows)))
        ≡ cond (nat_eq r.key.root own) ((r.key.path, copied_in pages r) ∷ below own (forest pages rows)) (below own (forest pages rows))
    by (inl e) rest =
        let stays : nat_eq root r.key.root ≡ false = ap (nat_eq root) (eqb-true r.key.root own e) ∙ off in
        (λ i. cond (nat_eq r.key.root own) ((r.key.path, copied_with (cond (stays i && is_prefix at r.key.path) (marks_away r.marks) r.marks) (slice_index_or pages r.frame (empty_page 0))) ∷ rest i) (rest i))
    by (inr e) rest =
        ap (λ b. cond b ((r.key.path, copied_in pages (cut_row root at r)) ∷ below own (forest pages (map (cut_row root at) rows))) (below own (forest pages (map (cut_row root at) rows)))) e
        ∙ rest
        ∙ sym (ap (λ b. cond b ((r.key.path, copied_in pages r) ∷ below own (forest pages rows)) (below own (forest pages rows))) e)

pub beside_cut : (h : Held) (at : List ℕ) → beside (with_rows h h.pages (map (cut_row h.root at) h.rows)) ≡ beside h
beside_cut h at =
    (λ i. record {
      root = h.root;
      trees = trees_same (with_rows h h.pages (map (cut_row h.root at) h.rows)) h refl (λ n off. cut_other n h.root at h.pages (eq_sym n h.root off) h.rows) i;
      more = more_cut h.root h.root at h.rows i;
      frames = length-map h.rows (cut_row h.root at) i + left h.run;
      pool = length h.pages;
    })

pub tree_keys_cut : (h : Held) (at : List ℕ) → keys_of (picked_tree (with_rows h h.pages (map (cut_row h.root at) h.rows))) ≡ keys_of (picked_tree h)
tree_keys_cut h at =
    keys_below h.root (forest h.pages (map (cut_row h.root at) h.rows)) (forest h.pages h.rows)
    (keys_forest h.pages (map (cut_row h.root at) h.rows) ∙ keys_cut h.root at h.rows ∙ sym (keys_forest h.pages h.rows))
