-- What a step does to the copied pages, apart from what was read of them.
use Rattle.std.proofs.Common.{◌≡◌, ℕ, ◌<◌, Bool, true, false, not, ◌&&◌, cond, nat_lt, List, [], ◌∷◌, ◌++◌, length, inl, inr, refl, sym, ap, subst, ◌∙◌, Option, Some, None, option_map, is_some, ltb-true}
use Rattle.std.specs.Option.{option_map_or}
use Rattle.std.specs.FinMap as map
use Rattle.std.specs.Cmp.{first_so, second_so}
use Rattle.afs_base.specs.Path.{is_prefix, are_slots}
use Rattle.afs_base.specs.declared.kind.Kind.TheVariants.{Data}
use Rattle.tree_model.specs.declared.step.Step.{Step}
use Rattle.tree_model.specs.Trees.{Tree}
use Rattle.tree_model.specs.Accesses.{Place, is_among}
use Rattle.tree_model.proofs.Paths.{never, prefix_self, prefix_append, child_above, not_true}
use Rattle.tree_model.proofs.Theirs.{way_child}
use Rattle.page_places.specs.Places.{Store}
use Rattle.draft_model.specs.Views.{Copied, View, PageCopy, Copies, copy_of, copies, live, LiveAt}
use Rattle.draft_model.specs.Steps.{acts, page_by, cuts, taken, is_made, blank, made, stepped}
use Rattle.draft_model.specs.Stands.{SlotStands, Shape}
use Rattle.page_places.proofs.Facts.{at_root}

abbrev pub moved_copy : Bool → Step → List ℕ → PageCopy → PageCopy
moved_copy done step p c = record { live = c.live && not (cuts done step p); page = page_by done c.live step p c.page }

abbrev pub fresh_copy : ℕ → PageCopy
fresh_copy level = record { live = true; page = blank level }

-- the copied pages after a step
abbrev pub moved : Bool → Step → Copies → Copies
moved done step h p = cond (is_made done step p) (Some (fresh_copy (length p))) (option_map (moved_copy done step p) (h p))

pub moved_is : (d : View) (step : Step) (p : List ℕ) → copies (stepped d step) p ≡ moved (acts (copies d) step) step (copies d) p
moved_is d step p = by (is_made (acts (copies d) step) step p) (d p)
  where
    by : (b : Bool) (o : Option Copied) → option_map copy_of (cond b (Some (made (length p) (d p))) (option_map (taken (acts (copies d) step) step p) o))
        ≡ cond b (Some (fresh_copy (length p))) (option_map (moved_copy (acts (copies d) step) step p) (option_map copy_of o))
    by true o = refl
    by false None = refl
    by false (Some c) = refl

pub some_is : (x y : PageCopy) → Some x ≡ Some y → x ≡ y
some_is x y e = ap (λ (o : Option PageCopy). option_map_or (λ (c : PageCopy). c) o x) e

-- where a page is live after the step that did not make it, it was live, and was not taken away
pub record WasLive (done : Bool) (step : Step) (h : Copies) (p : List ℕ) (c : PageCopy) : Type 0 where
  pub before : PageCopy
  pub at : LiveAt h p before
  pub uncut : cuts done step p ≡ false
  pub is : c ≡ moved_copy done step p before

pub was_live : (done : Bool) (step : Step) (h : Copies) (p : List ℕ) (c : PageCopy) → is_made done step p ≡ false → LiveAt (moved done step h) p c → WasLive done step h p c
was_live done step h p c apart at = by (h p) refl (ap (λ b. cond b (Some (fresh_copy (length p))) (option_map (moved_copy done step p) (h p))) (sym apart) ∙ at.is)
  where
    by : (o : Option PageCopy) → h p ≡ o → option_map (moved_copy done step p) o ≡ Some c → WasLive done step h p c
    by None e g = absurd (cc)
    by (Some x) e g =
        let is : moved_copy done step p x ≡ c = some_is (moved_copy done step p x) c g in
        let here : (x.live && not (cuts done step p)) ≡ true = ap (λ (y : PageCopy). y.live) is ∙ at.live in
        record {
          before = x;
          at = record { is = e; live = first_so x.live (not (cuts done step p)) here };
          uncut = not_true (cuts done step p) (second_so x.live (not (cuts done step p)) here);
          is = sym is;
        }

pub live_moved : (done : Bool) (step : Step) (h : Copies) (p : List ℕ) → is_made done step p ≡ false → live (moved done step h) p ≡ (live h p && not (cuts done step p))
live_moved done step h p apart =
    ap (λ b. option_map_or (λ (c : PageCopy). c.live) (cond b (Some (fresh_copy (length p))) (option_map (moved_copy done step p) (h p))) false) apart ∙ by (h p)
  where
    by : (o : Option PageCopy) → option_map_or (λ (c : PageCopy). c.live) (option_map (moved_copy done step p) o) false ≡ (option_map_or (λ (c : PageCopy). c.live) o false && not (cuts done step p))
    by None = refl
    by (Some c) = refl

pub none_moved : (done : Bool) (step : Step) (h : Copies) (p : List ℕ) → is_made done step p ≡ false → h p ≡ None → moved done step h p ≡ None
none_moved done step h p apart none =
    (λ i. cond (apart i) (Some (fresh_copy (length p))) (option_map (moved_copy done step p) (none i)))

-- a page that is copied after the step that did not make it was copied before
pub was_copied : (done : Bool) (step : Step) (h : Copies) (p : List ℕ) (c : PageCopy) → is_made done step p ≡ false → moved done step h p ≡ Some c → (x : PageCopy) × (h p ≡ Some x)
was_copied done step h p c apart at = by (h p) refl (ap (λ b. cond b (Some (fresh_copy (length p))) (option_map (moved_copy done step p) (h p))) (sym apart) ∙ at)
  where
    by : (o : Option PageCopy) → h p ≡ o → option_map (moved_copy done step p) o ≡ Some c → (x : PageCopy) × (h p ≡ Some x)
    by None e g = absurd (cc)
    by (Some x) e g = (x, e)

-- ---- paths

-- two children that are one
pub child_is : (p : List ℕ) (s : ℕ) (q : List ℕ) (k : ℕ) → p ++ s ∷ [] ≡ q ++ k ∷ [] → (p ≡ q) × (s ≡ k)
child_is p s q k e = elim (way_child (p, s) q k (ap (is_prefix (p ++ s ∷ [])) (sym e) ∙ prefix_self (p ++ s ∷ []))) [
  | inl both ↦ both
  | inr below ↦ never below (ap (λ (x : List ℕ). is_prefix x q) e ∙ child_above q k)
]

-- a path of slots has slots below 16
pub slot_small : (p : List ℕ) (s : ℕ) (r : List ℕ) → are_slots ((p ++ s ∷ []) ++ r) ≡ true → s < 16
slot_small [] s r h = ltb-true s 16 (first_so (nat_lt s 16) (are_slots r) h)
slot_small (t ∷ p) s r h = slot_small p s r (second_so (nat_lt t 16) (are_slots ((p ++ s ∷ []) ++ r)) h)

-- ---- slots that a change passes by

pub slot_stays : (store : Store) (root : ℕ) (a t u : Tree) (w x : List Place) (h g : Copies) (q : List ℕ) (changed alive : Bool) (o : Option ℕ)
    → (is_among w (q, Data) ≡ true → is_among x (q, Data) ≡ true)
    → (alive ≡ false → (r : List ℕ) → map.get u (q ++ r) ≡ map.get t (q ++ r))
    → (alive ≡ false → (r : List ℕ) → h (q ++ r) ≡ None → g (q ++ r) ≡ None)
    → SlotStands store root a t w h q changed alive o → SlotStands store root a u x g q changed alive o
slot_stays store root a t u w x h g q changed true None more as_before none s = more s
slot_stays store root a t u w x h g q changed true (Some b) more as_before none s = s
slot_stays store root a t u w x h g q changed false None more as_before none s =
    let F : List ℕ → Type 0 = λ y. map.get u y ≡ map.get t y in
    (ap is_some (subst F (at_root q) (as_before refl [])) ∙ s.0, λ e r. none refl r (s.1 e r))
slot_stays store root a t u w x h g q changed false (Some b) more as_before none s = (
  record { block = s.0.block; as_base = λ r. as_before refl r ∙ s.0.as_base r; uncopied = λ r. none refl r (s.0.uncopied r) },
  s.1,
)

-- nothing of the change shows in the copies
pub shape_same : (store : Store) (root : ℕ) (a t : Tree) (w : List Place) (h g : Copies) → ((p : List ℕ) → g p ≡ h p) → Shape store root a t w h → Shape store root a t w g
shape_same store root a t w h g is S =
    let F : Copies → Type 0 = λ x. Shape store root a t w x in
    let e : h ≡ g = λ i p. sym (is p) i in
    subst F e S

-- more was written
pub shape_more : (store : Store) (root : ℕ) (a t : Tree) (w x : List Place) (h : Copies) → ((p : List ℕ) → is_among w (p, Data) ≡ true → is_among x (p, Data) ≡ true)
    → Shape store root a t w h → Shape store root a t x h
shape_more store root a t w x h more S = record {
  tree = S.tree;
  top = S.top;
  above = S.above;
  data_is = S.data_is;
  level_is = S.level_is;
  slot = λ p s c at. slot_stays store root a t t w x h h (p ++ s ∷ []) _ _ _ (more (p ++ s ∷ [])) (λ _ r. refl) (λ _ r e. e) (S.slot p s c at);
  slots = S.slots;
}

-- a live path is not below a dead one
pub not_below : (store : Store) (root : ℕ) (a t : Tree) (w : List Place) (h : Copies) → Shape store root a t w h → (p q r : List ℕ)
    → live h p ≡ true → live h q ≡ false → q ++ r ≡ p → ⊥
not_below store root a t w h S p q r here dead e =
    never (S.above p q (ap (is_prefix q) (sym e) ∙ prefix_append q r) here) dead
