-- Where no page is wanted, the live pages on a step's way are those of the tree, and the answer is the tree's.
use Rattle.std.proofs.Common.{◌≡◌, ℕ, ◌^◌, Bool, true, false, not, ◌&&◌, ◌||◌, cond, List, [], ◌∷◌, ◌++◌, inl, inr, refl, sym, ap, subst, ◌∙◌, Option, Some, None, is_some, sum_by}
use Rattle.std.specs.Option.{option_map_or}
use Rattle.std.specs.FinMap as map
use Rattle.afs_base.specs.Path.{is_prefix}
use Rattle.tree_model.specs.declared.step.Step.{Step}
use Rattle.tree_model.specs.declared.step.Step.TheVariants.{ReadAt, ListAt, WriteAt, MakeAt, DropAt}
use Rattle.tree_model.specs.declared.step.Reply.TheVariants.{Bytes, Slots, Done, Absent, Present}
use Rattle.tree_model.specs.Children.{path_of}
use Rattle.tree_model.specs.Trees.{Tree, has, can_make, every_slot, reply_of}
use Rattle.tree_model.specs.Accesses.{Place, end_of}
use Rattle.tree_model.proofs.Paths.{told, prefix_self, prefix_append, prefix_above, prefix_trans, false_if}
use Rattle.tree_model.proofs.TreeFacts.{absent}
use Rattle.page_places.specs.Places.{Store, Holds, slot_block, has_bit}
use Rattle.draft_model.specs.Views.{PageCopy, Copies, live, LiveAt, WantsNone}
use Rattle.draft_model.specs.Steps.{is_there, makes, data_reply, reply_in}
use Rattle.draft_model.specs.Stands.{Shape, SlotStands}
use Rattle.page_places.proofs.Facts.{at_root}
use Rattle.draft_model.proofs.Facts.{at_of, push}

-- a live page is in the tree
pub has_live : (store : Store) (root : ℕ) (a t : Tree) (w : List Place) (h : Copies) → Shape store root a t w h → (p : List ℕ) → live h p ≡ true → has t p ≡ true
has_live store root a t w h S p here = let at = at_of h p here in ap is_some (S.data_is p at.0 at.1)

-- what a slot says, in the case that stands
pub slot_case : (store : Store) (root : ℕ) (a t : Tree) (w : List Place) (h : Copies) → Shape store root a t w h
    → (p : List ℕ) (s : ℕ) (c : PageCopy) → LiveAt h p c → (alive : Bool) (o : Option ℕ) → live h (p ++ s ∷ []) ≡ alive → slot_block c.page s ≡ o
    → SlotStands store root a t w h (p ++ s ∷ []) (has_bit c.page.modified s) alive o
slot_case store root a t w h S p s c at alive o e g =
    let F : Bool → Type 0 = λ b. SlotStands store root a t w h (p ++ s ∷ []) (has_bit c.page.modified s) b (slot_block c.page s) in
    let G : Option ℕ → Type 0 = λ x. SlotStands store root a t w h (p ++ s ∷ []) (has_bit c.page.modified s) alive x in
    subst G g (subst F e (S.slot p s c at))

-- below a page that is not in the tree, nothing is
pub gone_below : (store : Store) (root : ℕ) (a t : Tree) (w : List Place) (h : Copies) → Shape store root a t w h → (q x : List ℕ)
    → is_prefix q x ≡ true → has t q ≡ false → has t x ≡ false
gone_below store root a t w h S q x on gone = false_if _ (λ e. sym gone ∙ S.tree.closed x q on e)

pub dead_below : (store : Store) (root : ℕ) (a t : Tree) (w : List Place) (h : Copies) → Shape store root a t w h → (q x : List ℕ)
    → is_prefix q x ≡ true → live h q ≡ false → live h x ≡ false
dead_below store root a t w h S q x on gone = false_if _ (λ e. sym gone ∙ S.above x q on e)

-- from a live page on
told_from : (store : Store) (root : ℕ) (a t : Tree) (w : List Place) (h : Copies) → Shape store root a t w h → (end : List ℕ) → WantsNone h end
    → (l p x : List ℕ) → p ++ l ≡ x → live h p ≡ true → is_prefix x end ≡ true → live h x ≡ has t x
told_from store root a t w h S end none [] p x is here on =
    let F : List ℕ → Type 0 = λ y. live h y ≡ has t y in
    subst F (sym (at_root p) ∙ is) (here ∙ sym (has_live store root a t w h S p here))
told_from store root a t w h S end none (s ∷ l) p x is here on =
    let q_is : (p ++ s ∷ []) ++ l ≡ x = push p s l ∙ is in
    let before : is_prefix (p ++ s ∷ []) x ≡ true = ap (is_prefix (p ++ s ∷ [])) (sym q_is) ∙ prefix_append (p ++ s ∷ []) l in
    elim (told (live h (p ++ s ∷ []))) [
      | inl e ↦ told_from store root a t w h S end none l (p ++ s ∷ []) x q_is e on
      | inr e ↦
          let at = at_of h p here in
          let no_block : slot_block at.0.page s ≡ None = none p s at.0 at.1 (prefix_trans (p ++ s ∷ []) x end before on) e in
          let stands = slot_case store root a t w h S p s at.0 at.1 false None e no_block in
          dead_below store root a t w h S (p ++ s ∷ []) x before e
          ∙ sym (gone_below store root a t w h S (p ++ s ∷ []) x before stands.0)
    ]

-- on the way to `end`
pub way_told : (store : Store) (root : ℕ) (a t : Tree) (w : List Place) (h : Copies) → Shape store root a t w h → (end : List ℕ) → WantsNone h end
    → (q : List ℕ) → is_prefix q end ≡ true → live h q ≡ has t q
way_told store root a t w h S end none q on = told_from store root a t w h S end none q [] q refl S.top on

-- a child of a page whose liveness is told
pub child_told : (store : Store) (root : ℕ) (a t : Tree) (w : List Place) (h : Copies) → Holds store root a → Shape store root a t w h
    → (c : List ℕ × ℕ) → live h c.0 ≡ has t c.0 → is_there h c ≡ has t (path_of c)
child_told store root a t w h base S c is = elim (told (live h c.0)) [ inl e ↦ here e | inr e ↦ gone (h c.0) refl e ]
  where
    gone : (o : Option PageCopy) → h c.0 ≡ o → live h c.0 ≡ false → is_there h c ≡ has t (path_of c)
    gone None at e =
        ap (λ o. option_map_or (λ (x : PageCopy). x.live && (live h (path_of c) || is_some (slot_block x.page c.1))) o false) at
        ∙ sym (gone_below store root a t w h S c.0 (path_of c) (prefix_above c.0 c.1) (sym is ∙ e))
    gone (Some x) at e =
        ap (λ o. option_map_or (λ (x : PageCopy). x.live && (live h (path_of c) || is_some (slot_block x.page c.1))) o false) at
        ∙ ap (λ b. b && (live h (path_of c) || is_some (slot_block x.page c.1))) (sym (ap (λ o. option_map_or (λ (x : PageCopy). x.live) o false) at) ∙ e)
        ∙ sym (gone_below store root a t w h S c.0 (path_of c) (prefix_above c.0 c.1) (sym is ∙ e))

    by : (x : PageCopy) → LiveAt h c.0 x → (alive : Bool) (o : Option ℕ) → live h (path_of c) ≡ alive → slot_block x.page c.1 ≡ o → (alive || is_some o) ≡ has t (path_of c)
    by x at true o e g = sym (has_live store root a t w h S (path_of c) e)
    by x at false None e g = sym (slot_case store root a t w h S c.0 c.1 x at false None e g).0
    by x at false (Some b) e g =
        let shared = (slot_case store root a t w h S c.0 c.1 x at false (Some b) e g).0 in
        let held = base.page (path_of c) b shared.block in
        sym (ap (has t) (sym (at_root (path_of c))) ∙ ap is_some (shared.as_base [] ∙ ap (map.get a) (at_root (path_of c)) ∙ held.2))

    here : live h c.0 ≡ true → is_there h c ≡ has t (path_of c)
    here e =
        let at = at_of h c.0 e in
        ap (λ o. option_map_or (λ (x : PageCopy). x.live && (live h (path_of c) || is_some (slot_block x.page c.1))) o false) at.1.is
        ∙ ap (λ b. b && (live h (path_of c) || is_some (slot_block at.0.page c.1))) at.1.live
        ∙ by at.0 at.1 (live h (path_of c)) (slot_block at.0.page c.1) refl refl

pub makes_told : (store : Store) (root : ℕ) (a t : Tree) (w : List Place) (h : Copies) → Holds store root a → Shape store root a t w h
    → (c : List ℕ × ℕ) → live h c.0 ≡ has t c.0 → makes h c ≡ can_make t c
makes_told store root a t w h base S c is = λ i. is i && not (child_told store root a t w h base S c is i)

-- the data of a page whose liveness is told
pub data_told : (store : Store) (root : ℕ) (a t : Tree) (w : List Place) (h : Copies) → Shape store root a t w h → (p : List ℕ) → live h p ≡ has t p
    → data_reply (h p) ≡ option_map_or Bytes (map.get t p) Absent
data_told store root a t w h S p is = by (h p) refl
  where
    gone : live h p ≡ false → Absent ≡ option_map_or Bytes (map.get t p) Absent
    gone e = ap (λ o. option_map_or Bytes o Absent) (sym (absent t p (sym is ∙ e)))

    with_live : (c : PageCopy) → h p ≡ Some c → (b : Bool) → c.live ≡ b → cond b (Bytes c.page.bytes) Absent ≡ option_map_or Bytes (map.get t p) Absent
    with_live c e true g = ap (λ o. option_map_or Bytes o Absent) (sym (S.data_is p c (record { is = e; live = g })))
    with_live c e false g = gone (ap (λ o. option_map_or (λ (x : PageCopy). x.live) o false) e ∙ g)

    by : (o : Option PageCopy) → h p ≡ o → data_reply o ≡ option_map_or Bytes (map.get t p) Absent
    by None e = gone (ap (λ o. option_map_or (λ (x : PageCopy). x.live) o false) e)
    by (Some c) e = with_live c e c.live refl

-- the answer is the tree's
pub reply_told : (store : Store) (root : ℕ) (a t : Tree) (w : List Place) (h : Copies) → Holds store root a → Shape store root a t w h
    → (step : Step) → WantsNone h (end_of step) → reply_in h step ≡ reply_of t step
reply_told store root a t w h base S (ReadAt p) none = data_told store root a t w h S p (way_told store root a t w h S p none p (prefix_self p))
reply_told store root a t w h base S (ListAt p) none =
    let is = way_told store root a t w h S p none p (prefix_self p) in
    λ i. cond (is i) (Slots (sum_by (λ (s : ℕ). cond (child_told store root a t w h base S (p, s) is i) (2 ^ s) 0) every_slot)) Absent
reply_told store root a t w h base S (WriteAt p bytes) none = ap (λ b. cond b Done Absent) (way_told store root a t w h S p none p (prefix_self p))
reply_told store root a t w h base S (MakeAt c) none =
    let is = way_told store root a t w h S c.0 none c.0 (prefix_self c.0) in
    λ i. cond (is i) (cond (child_told store root a t w h base S c is i) Present Done) Absent
reply_told store root a t w h base S (DropAt c) none =
    let is = way_told store root a t w h S c.0 none c.0 (prefix_self c.0) in
    ap (λ b. cond b Done Absent) (child_told store root a t w h base S c is)
