-- A draft that lets go of the pages that were copied and never accessed stands for the same steps.
use Rattle.std.proofs.Common.{◌≡◌, ℕ, ◌<◌, Bool, true, false, not, ◌&&◌, ◌||◌, cond, List, [], ◌∷◌, ◌++◌, ◌⊎◌, inl, inr, refl, sym, ap, subst, ◌∙◌, Option, Some, None, option_map}
use Rattle.std.specs.Option.{option_map_or}
use Rattle.std.specs.List.{list_any, list_all}
use Rattle.std.specs.Cmp.{first_so, second_so}
use Rattle.std.specs.FinMap as map
use Rattle.afs_base.specs.Path.{is_prefix, are_slots}
use Rattle.afs_base.specs.declared.kind.Kind.{Kind}
use Rattle.afs_base.specs.declared.kind.Kind.TheVariants.{Data, Slot}
use Rattle.tree_model.specs.declared.step.Step.{Step}
use Rattle.tree_model.specs.declared.step.Step.TheVariants.{ReadAt, ListAt, WriteAt, MakeAt, DropAt}
use Rattle.tree_model.specs.Children.{path_of}
use Rattle.tree_model.specs.Trees.{Tree, has, IsTree, can_make, without, after, tree_after, every_slot}
use Rattle.tree_model.specs.Accesses.{Place, is_among, slot_of, on_the_way, slots_at, target, own_reads, step_reads, step_writes, all_reads, all_writes, touches}
use Rattle.tree_model.proofs.Paths.{told, never, not_true, or_left, or_right, or_told, false_if, same_test, same_self, path_told, prefix_self, prefix_above, prefix_append, prefix_told, prefix_trans, child_above}
use Rattle.tree_model.proofs.TreeFacts.{had, has_without, tree_step}
use Rattle.tree_model.proofs.PlaceFacts.{among_left, among_right, among_either, among_told, among_first, among_later, not_among, among_if, if_among, way_told, on_way, slots_told}
use Rattle.tree_model.proofs.Theirs.{way_child}
use Rattle.tree_model.proofs.Untouched.{unwritten_run, untouched_run}
use Rattle.page_places.specs.Places.{Store, same, slot_block, has_bit}
use Rattle.draft_model.specs.Views.{Copied, View, PageCopy, Copies, copy_of, copies, live, LiveAt, IsUncopied, reads_kind, writes_kind, did_read, did_write}
use Rattle.draft_model.specs.Stands.{SlotStands, Shape, IsKind, StandsFor}
use Rattle.page_places.proofs.Facts.{at_root}
use Rattle.draft_model.proofs.Facts.{live_of, at_of, push}
use Rattle.draft_model.proofs.Ways.{has_live, slot_case}
use Rattle.draft_model.proofs.Marks.{is_data, number, made_places, cond_no_slot}
use Rattle.draft_model.proofs.Moves.{slot_small}
use Rattle.draft_model.proofs.Feeding.{holds_tree}
use Rattle.draft_model.proofs.Telling.{any_below, some_below, touched, writes_kinds}
use Rattle.joint_walk.specs.Later.{is_path_of, did_access}
use Rattle.draft_model.specs.Told.{is_accessed}
use Rattle.draft_tree.specs.Drafts.{if_accessed, accessed_pages}
use Rattle.draft_model.proofs.Flushing.{copied_at}
use Rattle.joint_walk.proofs.Places.{none_some, child_slot}
use Rattle.joint_walk.proofs.Joining.{slot_mark, path_place}

-- ---- what a step accesses lies on its way

-- the path is on the way to the step's, and the pages above it are there
record Near (t : Tree) (step : Step) (p : List ℕ) : Type 0 where
  on : is_prefix p (target step) ≡ true
  reached : (c : List ℕ × ℕ) → is_prefix (path_of c) p ≡ true → has t c.0 ≡ true

near_at : (t : Tree) (step : Step) (p q : List ℕ) → p ≡ q → Near t step q → Near t step p
near_at t step p q is near = let F : List ℕ → Type 0 = Near t step in subst F (sym is) near

reached_there : (t : Tree) (p : List ℕ) → IsTree t → has t p ≡ true → (c : List ℕ × ℕ) → is_prefix (path_of c) p ≡ true → has t c.0 ≡ true
reached_there t p tree there c h = tree.closed p c.0 (prefix_trans c.0 (path_of c) p (prefix_above c.0 c.1) h) there

reached_child : (t : Tree) (x : List ℕ × ℕ) → IsTree t → has t x.0 ≡ true → (c : List ℕ × ℕ) → is_prefix (path_of c) (path_of x) ≡ true → has t c.0 ≡ true
reached_child t x tree there c h = elim (way_child c x.0 x.1 h) [
  | inl is ↦ ap (has t) is.0 ∙ there
  | inr above ↦ reached_there t x.0 tree there c above
]

near_own : (t : Tree) (done : List Place) (step : Step) (x : Place) → IsTree t → is_among (own_reads t done step) x ≡ true → Near t step x.0
near_own t done (ReadAt q) x tree h =
    let b = has t q && not (is_among done (q, Data)) in
    let here = among_if b ((q, Data) ∷ []) x h in
    elim (among_told (q, Data) [] x here.1) [
      | inl e ↦ near_at t (ReadAt q) x.0 q (ap (λ (y : Place). y.0) e)
          (record { on = prefix_self q; reached = reached_there t q tree (first_so (has t q) (not (is_among done (q, Data))) here.0) })
      | inr e ↦ not_among x e
    ]
near_own t done (ListAt q) x tree h =
    let here = among_if (has t q) (slots_at q) x h in
    let found = slots_told q x here.1 in
    near_at t (ListAt q) x.0 q (ap (λ (y : Place). y.0) found.2) (record { on = prefix_self q; reached = reached_there t q tree here.0 })
near_own t done (WriteAt q bytes) x tree h = not_among x h
near_own t done (MakeAt c) x tree h =
    let here = among_if (can_make t c) (slots_at (path_of c)) x h in
    let found = slots_told (path_of c) x here.1 in
    near_at t (MakeAt c) x.0 (path_of c) (ap (λ (y : Place). y.0) found.2)
    (record { on = prefix_self (path_of c); reached = reached_child t c tree (first_so (has t c.0) (not (has t (path_of c))) here.0) })
near_own t done (DropAt c) x tree h = not_among x h

near_read : (t : Tree) (done : List Place) (step : Step) (x : Place) → IsTree t → is_among (step_reads t done step) x ≡ true → Near t step x.0
near_read t done step x tree h = elim (among_either (on_the_way t (target step)) (own_reads t done step) x h) [
  | inl e ↦
      let found = way_told t (target step) x e in
      near_at t step x.0 found.0.0 (ap (λ (y : Place). y.0) found.1) (record {
        on = prefix_trans found.0.0 (path_of found.0) (target step) (prefix_above found.0.0 found.0.1) found.3;
        reached = reached_there t found.0.0 tree found.2;
      })
  | inr e ↦ near_own t done step x tree e
]

near_write : (t : Tree) (step : Step) (x : Place) → IsTree t → is_among (step_writes t step) x ≡ true → Near t step x.0
near_write t (ReadAt q) x tree h = not_among x h
near_write t (ListAt q) x tree h = not_among x h
near_write t (WriteAt q bytes) x tree h =
    let here = among_if (has t q) ((q, Data) ∷ []) x h in
    elim (among_told (q, Data) [] x here.1) [
      | inl e ↦ near_at t (WriteAt q bytes) x.0 q (ap (λ (y : Place). y.0) e) (record { on = prefix_self q; reached = reached_there t q tree here.0 })
      | inr e ↦ not_among x e
    ]
near_write t (MakeAt c) x tree h =
    let here = among_if (can_make t c) (made_places c) x h in
    let above = first_so (has t c.0) (not (has t (path_of c))) here.0 in
    let made : Near t (MakeAt c) (path_of c) = record { on = prefix_self (path_of c); reached = reached_child t c tree above } in
    elim (among_told (slot_of c) ((path_of c, Data) ∷ slots_at (path_of c)) x here.1) [
      | inl e ↦ near_at t (MakeAt c) x.0 c.0 (ap (λ (y : Place). y.0) e) (record { on = prefix_above c.0 c.1; reached = reached_there t c.0 tree above })
      | inr more ↦ elim (among_told (path_of c, Data) (slots_at (path_of c)) x more) [
        | inl e ↦ near_at t (MakeAt c) x.0 (path_of c) (ap (λ (y : Place). y.0) e) made
        | inr at ↦ let found = slots_told (path_of c) x at in near_at t (MakeAt c) x.0 (path_of c) (ap (λ (y : Place). y.0) found.2) made
      ]
    ]
near_write t (DropAt c) x tree h =
    let here = among_if (has t (path_of c)) (slot_of c ∷ []) x h in
    elim (among_told (slot_of c) [] x here.1) [
      | inl e ↦ near_at t (DropAt c) x.0 c.0 (ap (λ (y : Place). y.0) e) (record {
        on = prefix_above c.0 c.1;
        reached = reached_there t c.0 tree (tree.closed (path_of c) c.0 (prefix_above c.0 c.1) here.0);
      })
      | inr e ↦ not_among x e
    ]

near_way : (t : Tree) (done : List Place) (step : Step) (p q : List ℕ) (s : ℕ) → Near t step p → is_prefix (q ++ s ∷ []) p ≡ true → is_among (step_reads t done step) (q, Slot s) ≡ true
near_way t done step p q s near h =
    among_left (on_the_way t (target step)) (own_reads t done step) (q, Slot s)
    (on_way t (target step) (q, s) (near.reached (q, s) h) (prefix_trans (q ++ s ∷ []) p (target step) h near.on))

-- who accesses a page has read the slots that lead to it
pub way_reads : (t : Tree) (done : List Place) (steps : List Step) (x : Place) → IsTree t
    → (is_among (all_reads t done steps) x ≡ true) ⊎ (is_among (all_writes t steps) x ≡ true)
    → (q : List ℕ) (s : ℕ) → is_prefix (q ++ s ∷ []) x.0 ≡ true → is_among (all_reads t done steps) (q, Slot s) ≡ true
way_reads t done [] x tree (inl h) q s on = not_among x h
way_reads t done [] x tree (inr h) q s on = not_among x h
way_reads t done (step ∷ steps) x tree (inl h) q s on =
    let now = step_reads t done step in
    let later = all_reads (after t step) (done ++ step_writes t step) steps in
    elim (among_either now later x h) [
      | inl e ↦ among_left now later (q, Slot s) (near_way t done step x.0 q s (near_read t done step x tree e) on)
      | inr e ↦ among_right now later (q, Slot s) (way_reads (after t step) (done ++ step_writes t step) steps x (tree_step t step tree) (inl e) q s on)
    ]
way_reads t done (step ∷ steps) x tree (inr h) q s on =
    let now = step_reads t done step in
    let later = all_reads (after t step) (done ++ step_writes t step) steps in
    elim (among_either (step_writes t step) (all_writes (after t step) steps) x h) [
      | inl e ↦ among_left now later (q, Slot s) (near_way t done step x.0 q s (near_write t step x tree e) on)
      | inr e ↦ among_right now later (q, Slot s) (way_reads (after t step) (done ++ step_writes t step) steps x (tree_step t step tree) (inr e) q s on)
    ]

-- ---- a written slot with a page below it was written by the make of that page

step_made : (t : Tree) (step : Step) (p : List ℕ) (s : ℕ) → IsTree t → is_among (step_writes t step) (p, Slot s) ≡ true → has (after t step) (p ++ s ∷ []) ≡ true
    → is_among (step_writes t step) (p ++ s ∷ [], Data) ≡ true
step_made t (ReadAt q) p s tree h there = not_among (p, Slot s) h
step_made t (ListAt q) p s tree h there = not_among (p, Slot s) h
step_made t (WriteAt q bytes) p s tree h there = never h (cond_no_slot (has t q) q p s)
step_made t (MakeAt c) p s tree h there =
    let here = among_if (can_make t c) (made_places c) (p, Slot s) h in
    elim (among_told (slot_of c) ((path_of c, Data) ∷ slots_at (path_of c)) (p, Slot s) here.1) [
      | inl e ↦
          let is : p ++ s ∷ [] ≡ path_of c = λ i. path_of (child_of (e i)) in
          if_among (can_make t c) (made_places c) (p ++ s ∷ [], Data) here.0
          (among_later (slot_of c) ((path_of c, Data) ∷ slots_at (path_of c)) (p ++ s ∷ [], Data)
          (ap (λ (y : List ℕ). is_among ((path_of c, Data) ∷ slots_at (path_of c)) (y, Data)) is ∙ among_first (path_of c, Data) (slots_at (path_of c))))
      | inr more ↦ elim (among_told (path_of c, Data) (slots_at (path_of c)) (p, Slot s) more) [
        | inl e ↦ never refl (ap (λ (y : Place). is_data y.1) (sym e))
        | inr at ↦
            let found = slots_told (path_of c) (p, Slot s) at in
            let is : p ≡ path_of c = ap (λ (y : Place). y.0) found.2 in
            elim (had t (path_of c) [] (p ++ s ∷ []) (ap (λ b. has (cond b (map.insert t (path_of c) []) t) (p ++ s ∷ [])) (sym here.0) ∙ there)) [
              | inl same_path ↦ never (ap (is_prefix (p ++ s ∷ [])) (is ∙ sym same_path) ∙ prefix_self (p ++ s ∷ [])) (child_above p s)
              | inr was ↦ never (ap (has t) (sym is) ∙ tree.closed (p ++ s ∷ []) p (prefix_above p s) was) (not_true (has t (path_of c)) (second_so (has t c.0) (not (has t (path_of c))) here.0))
            ]
      ]
    ]
  where
    number_of : Kind → ℕ
    number_of Data = 0
    number_of (Slot k) = k

    child_of : Place → List ℕ × ℕ
    child_of x = (x.0, number_of x.1)
step_made t (DropAt c) p s tree h there =
    let here = among_if (has t (path_of c)) (slot_of c ∷ []) (p, Slot s) h in
    elim (among_told (slot_of c) [] (p, Slot s) here.1) [
      | inl e ↦
          let is : p ++ s ∷ [] ≡ path_of c = λ i. path_of (child_of (e i)) in
          never there (
          ap (λ b. has (cond b (without t (path_of c)) t) (p ++ s ∷ [])) here.0
          ∙ has_without t (path_of c) (p ++ s ∷ [])
          ∙ ap (λ b. not b && has t (p ++ s ∷ [])) (ap (is_prefix (path_of c)) is ∙ prefix_self (path_of c)))
      | inr e ↦ not_among (p, Slot s) e
    ]
  where
    number_of : Kind → ℕ
    number_of Data = 0
    number_of (Slot k) = k

    child_of : Place → List ℕ × ℕ
    child_of x = (x.0, number_of x.1)

pub made_again : (t : Tree) (steps : List Step) (p : List ℕ) (s : ℕ) → IsTree t → is_among (all_writes t steps) (p, Slot s) ≡ true → has (tree_after t steps) (p ++ s ∷ []) ≡ true
    → is_among (all_writes t steps) (p ++ s ∷ [], Data) ≡ true
made_again t [] p s tree h there = not_among (p, Slot s) h
made_again t (step ∷ steps) p s tree h there =
    let now = step_writes t step in
    let later = all_writes (after t step) steps in
    elim (among_either now later (p, Slot s) h) [
      | inl e ↦ elim (told (has (after t step) (p ++ s ∷ []))) [
        | inl g ↦ among_left now later (p ++ s ∷ [], Data) (step_made t step p s tree e g)
        | inr g ↦ elim (told (is_among later (p ++ s ∷ [], Data))) [
          | inl f ↦ among_right now later (p ++ s ∷ [], Data) f
          | inr f ↦ never (unwritten_run (after t step) steps (p ++ s ∷ []) there f).0 g
        ]
      ]
      | inr e ↦ among_right now later (p ++ s ∷ [], Data) (made_again (after t step) steps p s (tree_step t step tree) e there)
    ]

-- ---- marks and places

pub path_of_place : (places : List Place) (x : Place) → is_among places x ≡ true → is_path_of places x.0 ≡ true
path_of_place [] x h = not_among x h
path_of_place (y ∷ places) x h = elim (among_told y places x h) [
  | inl e ↦ or_left (same x.0 y.0) (is_path_of places x.0) (ap (λ (z : Place). same x.0 z.0) (sym e) ∙ same_self x.0)
  | inr e ↦ or_right (same x.0 y.0) (is_path_of places x.0) (path_of_place places x e)
]

module _ (store : Store) (root : ℕ) (a : Tree) (steps : List Step) (d : View) (was : StandsFor store root a steps d) where
  abbrev pub r : List Place
  r = all_reads a [] steps

  abbrev pub w : List Place
  w = all_writes a steps

  abbrev pub t : Tree
  t = tree_after a steps

  abbrev pub h : Copies
  h = copies d

  abbrev pub Met : List ℕ → Type 0
  Met p = (k : Kind) × ((is_among r (p, k) ≡ true) ⊎ (is_among w (p, k) ≡ true))

  shape : Shape store root a t w h
  shape = was.stands.shape

  tree : IsTree a
  tree = holds_tree store root a was.base

  -- what the page of a mark shows was read or written
  pub accessed_met : (p : List ℕ) (c : Copied) → d p ≡ Some c → is_accessed c ≡ true → Met p
  accessed_met p c is h = elim (or_told (c.read || c.written) (list_any (has_bit c.searched) every_slot || list_any (has_bit c.page.modified) every_slot) h) [
    | inl e ↦ elim (or_told c.read c.written e) [
      | inl g ↦ (Data, inl (sym (was.stands.read p Data tt) ∙ ap (λ (o : Option Copied). option_map_or (λ (x : Copied). x.read) o false) is ∙ g))
      | inr g ↦ (Data, inr (sym (was.stands.written p Data tt) ∙ ap (λ (o : Option Copied). option_map_or (λ (x : Copied). x.written) o false) is ∙ g))
    ]
    | inr e ↦ elim (or_told (list_any (has_bit c.searched) every_slot) (list_any (has_bit c.page.modified) every_slot) e) [
      | inl g ↦
          let some = some_below (has_bit c.searched) 16 g in
          (Slot some.0, inl (sym (was.stands.read p (Slot some.0) some.1) ∙ ap (λ (o : Option Copied). option_map_or (λ (x : Copied). has_bit x.searched some.0) o false) is ∙ some.2))
      | inr g ↦
          let some = some_below (has_bit c.page.modified) 16 g in
          (Slot some.0, inr (sym (was.stands.written p (Slot some.0) some.1) ∙ ap (λ (o : Option Copied). option_map_or (λ (x : Copied). has_bit x.page.modified some.0) o false) is ∙ some.2))
    ]
  ]

  -- .. and the other way round
  reads_accessed : (c : Copied) (k : Kind) → IsKind k → reads_kind c k ≡ true → is_accessed c ≡ true
  reads_accessed c Data kind e = or_left (c.read || c.written) _ (or_left c.read c.written e)
  reads_accessed c (Slot k) kind e =
      or_right (c.read || c.written) (list_any (has_bit c.searched) every_slot || list_any (has_bit c.page.modified) every_slot)
      (or_left (list_any (has_bit c.searched) every_slot) (list_any (has_bit c.page.modified) every_slot) (any_below (has_bit c.searched) 16 k kind e))

  writes_accessed : (c : Copied) (k : Kind) → IsKind k → writes_kind c k ≡ true → is_accessed c ≡ true
  writes_accessed c Data kind e = or_left (c.read || c.written) _ (or_right c.read c.written e)
  writes_accessed c (Slot k) kind e =
      or_right (c.read || c.written) (list_any (has_bit c.searched) every_slot || list_any (has_bit c.page.modified) every_slot)
      (or_right (list_any (has_bit c.searched) every_slot) (list_any (has_bit c.page.modified) every_slot) (any_below (has_bit c.page.modified) 16 k kind e))

  pub read_accessed : (p : List ℕ) (k : Kind) → IsKind k → is_among r (p, k) ≡ true → (c : Copied) × (d p ≡ Some c) × (is_accessed c ≡ true)
  read_accessed p k kind e = by (d p) refl (was.stands.read p k kind ∙ e)
    where
      by : (o : Option Copied) → d p ≡ o → option_map_or (λ (c : Copied). reads_kind c k) o false ≡ true → (c : Copied) × (d p ≡ Some c) × (is_accessed c ≡ true)
      by None is g = never g refl
      by (Some c) is g = (c, is, reads_accessed c k kind g)

  pub write_accessed : (p : List ℕ) (k : Kind) → IsKind k → is_among w (p, k) ≡ true → (c : Copied) × (d p ≡ Some c) × (is_accessed c ≡ true)
  write_accessed p k kind e = by (d p) refl (was.stands.written p k kind ∙ e)
    where
      by : (o : Option Copied) → d p ≡ o → option_map_or (λ (c : Copied). writes_kind c k) o false ≡ true → (c : Copied) × (d p ≡ Some c) × (is_accessed c ≡ true)
      by None is g = never g refl
      by (Some c) is g = (c, is, writes_accessed c k kind g)

  -- each page above one that was met was accessed
  above_accessed : (x q : List ℕ) (s : ℕ) → Met x → is_prefix (q ++ s ∷ []) x ≡ true → s < 16 → (c : Copied) × (d q ≡ Some c) × (is_accessed c ≡ true)
  above_accessed x q s met on small = read_accessed q (Slot s) small (way_reads a [] steps (x, met.0) tree met.1 q s on)

  -- ---- the pages that stay

  abbrev pub g : Copies
  g = copies (accessed_pages d)

  -- a page stays, or it was not accessed
  stays : (p : List ℕ) → (accessed_pages d p ≡ d p) ⊎ ((accessed_pages d p ≡ None) × ((c : Copied) → d p ≡ Some c → is_accessed c ≡ false))
  stays p = by (same p []) (d p) refl
    where
      by : (top : Bool) (o : Option Copied) → d p ≡ o → (cond top o (if_accessed o) ≡ o) ⊎ ((cond top o (if_accessed o) ≡ None) × ((c : Copied) → o ≡ Some c → is_accessed c ≡ false))
      by true o is = inl refl
      by false None is = inl refl
      by false (Some c) is = into (is_accessed c) refl
        where
          into : (b : Bool) → is_accessed c ≡ b → (cond b (Some c) None ≡ Some c) ⊎ ((cond b (Some c) None ≡ None) × ((x : Copied) → Some c ≡ Some x → is_accessed x ≡ false))
          into true e = inl refl
          into false e = inr (refl, λ x f. ap (λ (o : Option Copied). option_map_or is_accessed o false) (sym f) ∙ e)

  top_stays : accessed_pages d [] ≡ d []
  top_stays = refl

  accessed_stays : (p : List ℕ) (c : Copied) → d p ≡ Some c → is_accessed c ≡ true → accessed_pages d p ≡ d p
  accessed_stays p c is e = elim (stays p) [ inl x ↦ x | inr x ↦ never e (x.1 c is) ]

  was_there : (p : List ℕ) (c : PageCopy) → g p ≡ Some c → h p ≡ Some c
  was_there p c is = elim (stays p) [
    | inl x ↦ ap (option_map copy_of) (sym x) ∙ is
    | inr x ↦ none_some c (g p) (ap (option_map copy_of) x.0) is
  ]

  was_at : (p : List ℕ) (c : PageCopy) → LiveAt g p c → LiveAt h p c
  was_at p c at = record { is = was_there p c at.is; live = at.live }

  gone_still : (p : List ℕ) → h p ≡ None → g p ≡ None
  gone_still p e = elim (stays p) [
    | inl x ↦ ap (option_map copy_of) x ∙ e
    | inr x ↦ ap (option_map copy_of) x.0
  ]

  -- a page of the new view that is not `/` was met
  met_there : (p : List ℕ) (c : Copied) → accessed_pages d p ≡ Some c → (p ≡ []) ⊎ Met p
  met_there p c is = elim (path_told p []) [
    | inl e ↦ inl e
    | inr e ↦ inr (by e (d p) refl)
  ]
    where
      by : same p [] ≡ false → (o : Option Copied) → d p ≡ o → Met p
      by e None f = none_some c (if_accessed None) refl (λ i. into_is e f i)
        where
          into_is : same p [] ≡ false → d p ≡ None → if_accessed None ≡ Some c
          into_is e f = sym (λ i. cond (e i) (f i) (if_accessed (f i))) ∙ is
      by e (Some x) f = into (is_accessed x) refl (sym (λ i. cond (e i) (f i) (if_accessed (f i))) ∙ is)
        where
          into : (b : Bool) → is_accessed x ≡ b → cond b (Some x) None ≡ Some c → Met p
          into true u v = accessed_met p x f u
          into false u v = none_some c None refl v

  end_not : (p : List ℕ) (s : ℕ) (l : List ℕ) → same (p ++ s ∷ l) [] ≡ false
  end_not [] s l = refl
  end_not (x ∷ p) s l = refl

  -- a live page that was let go: nothing was read or written at or below it
  module _ (q : List ℕ) (c : Copied) (is : d q ≡ Some c) (here : c.live ≡ true) (gone : accessed_pages d q ≡ None) (idle : is_accessed c ≡ false) where
    there : has t q ≡ true
    there = has_live store root a t w h shape q (ap (λ (o : Option Copied). option_map_or (λ (x : PageCopy). x.live) (option_map copy_of o) false) is ∙ here)

    unused : {C : Type 0} → (x : Copied) → d q ≡ Some x → is_accessed x ≡ true → C
    unused x f u = never (ap (λ (o : Option Copied). option_map_or is_accessed o false) (sym is ∙ f) ∙ u) idle

    -- nothing that lies below was met
    unmet : {C : Type 0} → (x : List ℕ) (s : ℕ) (l : List ℕ) (y : Copied) → q ++ s ∷ l ≡ x → d x ≡ Some y → Met x → C
    unmet x s l y e f met =
        let slots : are_slots x ≡ true = shape.slots x (copy_of y) (ap (option_map copy_of) f) in
        let small : s < 16 = slot_small q s l (ap are_slots (push q s l ∙ e) ∙ slots) in
        let on : is_prefix (q ++ s ∷ []) x ≡ true = ap (is_prefix (q ++ s ∷ [])) (sym (push q s l ∙ e)) ∙ prefix_append (q ++ s ∷ []) l in
        let got = above_accessed x q s met on small in
        unused got.0 got.1 got.2

    untouched : touches w q ≡ false
    untouched = false_if _ (λ e.
        let found = touched w q e in
        let rest = prefix_told q found.0.0 found.2 in
        by found.0 found.1 rest.0 rest.1)
      where
        by : (x : Place) → is_among w x ≡ true → (l : List ℕ) → q ++ l ≡ x.0 → false ≡ true
        by x among [] e =
            let here_too : is_among w (q, x.1) ≡ true = ap (λ (y : List ℕ). is_among w (y, x.1)) (sym (at_root q) ∙ e) ∙ among in
            let got = write_accessed q x.1 (writes_kinds a steps q x.1 was.kept here_too) here_too in
            unused got.0 got.1 got.2
        by x among (s ∷ l) e =
            let got = write_accessed x.0 x.1 (writes_kinds a steps x.0 x.1 was.kept among) among in
            unmet x.0 s l got.0 e got.1 (x.1, inr among)

    bare : IsUncopied g q
    bare l = by l (accessed_pages d (q ++ l)) refl
      where
        by : (l : List ℕ) (o : Option Copied) → accessed_pages d (q ++ l) ≡ o → option_map copy_of (accessed_pages d (q ++ l)) ≡ None
        by l None e = ap (option_map copy_of) e
        by [] (Some y) e = none_some y (accessed_pages d q) gone (ap (accessed_pages d) (sym (at_root q)) ∙ e)
        by (s ∷ l) (Some y) e = elim (met_there (q ++ s ∷ l) y e) [
          | inl top ↦ never (ap (λ (x : List ℕ). same x []) top) (end_not q s l)
          | inr met ↦ elim (stays (q ++ s ∷ l)) [
            | inl k ↦ unmet (q ++ s ∷ l) s l y refl (sym k ∙ e) met
            | inr k ↦ none_some y (accessed_pages d (q ++ s ∷ l)) k.0 e
          ]
        ]

    -- the slot that leads to it was not written
    slot_clean : (p : List ℕ) (s : ℕ) → q ≡ p ++ s ∷ [] → did_write d p (Slot s) ≡ false
    slot_clean p s e = false_if _ (λ f.
        let slots : are_slots (p ++ s ∷ []) ≡ true = ap are_slots (sym e) ∙ shape.slots q (copy_of c) (ap (option_map copy_of) is) in
        let small = child_slot p s slots in
        let among : is_among w (p, Slot s) ≡ true = sym (was.stands.written p (Slot s) small) ∙ f in
        let made = made_again a steps p s tree among (ap (has t) (sym e) ∙ there) in
        let got = write_accessed q Data tt (ap (λ (x : List ℕ). is_among w (x, Data)) e ∙ made) in
        unused got.0 got.1 got.2)

  live_h : (p : List ℕ) → live g p ≡ true → live h p ≡ true
  live_h p here = let at = at_of g p here in live_of h p at.0 (was_at p at.0 at.1)

  slot_clean_bit : (p : List ℕ) (s : ℕ) (c : PageCopy) → LiveAt h p c → did_write d p (Slot s) ≡ false → has_bit c.page.modified s ≡ false
  slot_clean_bit p s c at e = sym (slot_mark d p s c at) ∙ e

  slot_used : (p : List ℕ) (s : ℕ) (c : PageCopy) → LiveAt g p c
      → SlotStands store root a t w g (p ++ s ∷ []) (has_bit c.page.modified s) (live g (p ++ s ∷ [])) (slot_block c.page s)
  slot_used p s c at = by (live g (p ++ s ∷ [])) refl (live h (p ++ s ∷ [])) refl (slot_block c.page s) refl
    where
      before : LiveAt h p c
      before = was_at p c at

      let_go : (x : Copied) → d (p ++ s ∷ []) ≡ Some x → x.live ≡ true → accessed_pages d (p ++ s ∷ []) ≡ None → is_accessed x ≡ false
          → live h (p ++ s ∷ []) ≡ true → (o : Option ℕ) → slot_block c.page s ≡ o
          → SlotStands store root a t w g (p ++ s ∷ []) (has_bit c.page.modified s) false o
      let_go x is here gone idle e None f =
          let got = write_accessed (p ++ s ∷ []) Data tt (slot_case store root a t w h shape p s c before true None e f) in
          unused (p ++ s ∷ []) x is here gone idle got.0 got.1 got.2
      let_go x is here gone idle e (Some y) f = (
        record {
          block = slot_case store root a t w h shape p s c before true (Some y) e f;
          as_base = (untouched_run a steps (p ++ s ∷ []) (there (p ++ s ∷ []) x is here gone idle) (untouched (p ++ s ∷ []) x is here gone idle)).1;
          uncopied = bare (p ++ s ∷ []) x is here gone idle;
        },
        slot_clean_bit p s c before (slot_clean (p ++ s ∷ []) x is here gone idle p s refl),
      )

      by : (now : Bool) → live g (p ++ s ∷ []) ≡ now → (alive : Bool) → live h (p ++ s ∷ []) ≡ alive → (o : Option ℕ) → slot_block c.page s ≡ o
          → SlotStands store root a t w g (p ++ s ∷ []) (has_bit c.page.modified s) now o
      by true n alive e None f = slot_case store root a t w h shape p s c before true None (live_h (p ++ s ∷ []) n) f
      by true n alive e (Some y) f = slot_case store root a t w h shape p s c before true (Some y) (live_h (p ++ s ∷ []) n) f
      by false n false e None f =
          let k = slot_case store root a t w h shape p s c before false None e f in
          (k.0, λ u r. gone_still ((p ++ s ∷ []) ++ r) (k.1 u r))
      by false n false e (Some y) f =
          let k = slot_case store root a t w h shape p s c before false (Some y) e f in
          (record { block = k.0.block; as_base = k.0.as_base; uncopied = λ r. gone_still ((p ++ s ∷ []) ++ r) (k.0.uncopied r) }, k.1)
      by false n true e o f = elim (stays (p ++ s ∷ [])) [
        | inl k ↦ never (ap (λ (o : Option Copied). option_map_or (λ (x : PageCopy). x.live) (option_map copy_of o) false) k ∙ e) n
        | inr k ↦ let at = copied_at d (p ++ s ∷ []) e in let_go at.0 at.1 at.2.live k.0 (k.1 at.0 at.1) e o f
      ]

  above_stays : (p q : List ℕ) → is_prefix q p ≡ true → live g p ≡ true → live g q ≡ true
  above_stays p q on here = let rest = prefix_told q p on in by rest.0 rest.1
    where
      up : live h q ≡ true
      up = shape.above p q on (live_h p here)

      by : (l : List ℕ) → q ++ l ≡ p → live g q ≡ true
      by [] e = ap (live g) (sym (at_root q) ∙ e) ∙ here
      by (s ∷ l) e = elim (stays q) [
        | inl k ↦ ap (λ (o : Option Copied). option_map_or (λ (x : PageCopy). x.live) (option_map copy_of o) false) k ∙ up
        | inr k ↦
            let at = copied_at d q up in
            let low = copied_at (accessed_pages d) p here in
            let low_was = copied_at d p (live_h p here) in
            elim (met_there p low.0 low.1) [
              | inl top ↦ never (ap (λ (x : List ℕ). same x []) (e ∙ top)) (end_not q s l)
              | inr met ↦ unmet q at.0 at.1 at.2.live k.0 (k.1 at.0 at.1) p s l low_was.0 e low_was.1 met
            ]
      ]

  -- an idle page has no marks
  read_same : (p : List ℕ) (k : Kind) → IsKind k → did_read (accessed_pages d) p k ≡ did_read d p k
  read_same p k kind = elim (stays p) [
    | inl x ↦ ap (λ (o : Option Copied). option_map_or (λ (c : Copied). reads_kind c k) o false) x
    | inr x ↦ ap (λ (o : Option Copied). option_map_or (λ (c : Copied). reads_kind c k) o false) x.0 ∙ sym (by (d p) x.1)
  ]
    where
      by : (o : Option Copied) → ((c : Copied) → o ≡ Some c → is_accessed c ≡ false) → option_map_or (λ (c : Copied). reads_kind c k) o false ≡ false
      by None idle = refl
      by (Some c) idle = false_if _ (λ e. sym (idle c refl) ∙ reads_accessed c k kind e)

  write_same : (p : List ℕ) (k : Kind) → IsKind k → did_write (accessed_pages d) p k ≡ did_write d p k
  write_same p k kind = elim (stays p) [
    | inl x ↦ ap (λ (o : Option Copied). option_map_or (λ (c : Copied). writes_kind c k) o false) x
    | inr x ↦ ap (λ (o : Option Copied). option_map_or (λ (c : Copied). writes_kind c k) o false) x.0 ∙ sym (by (d p) x.1)
  ]
    where
      by : (o : Option Copied) → ((c : Copied) → o ≡ Some c → is_accessed c ≡ false) → option_map_or (λ (c : Copied). writes_kind c k) o false ≡ false
      by None idle = refl
      by (Some c) idle = false_if _ (λ e. sym (idle c refl) ∙ writes_accessed c k kind e)

  pub accessed_stands : StandsFor store root a steps (accessed_pages d)
  accessed_stands = record {
    base = was.base;
    kept = was.kept;
    stands = record {
      shape = record {
        tree = shape.tree;
        top = shape.top;
        above = above_stays;
        data_is = λ p c at. shape.data_is p c (was_at p c at);
        level_is = λ p c at. shape.level_is p c (was_at p c at);
        slot = slot_used;
        slots = λ p c is. shape.slots p c (was_there p c is);
      };
      read = λ p k kind. read_same p k kind ∙ was.stands.read p k kind;
      written = λ p k kind. write_same p k kind ∙ was.stands.written p k kind;
    };
  }

  -- each page that is left was accessed, where a step was done
  pub all_accessed : did_access a steps [] ≡ true → (p : List ℕ) → live g p ≡ true → did_access a steps p ≡ true
  all_accessed top p here =
      let copy = copied_at (accessed_pages d) p here in
      elim (met_there p copy.0 copy.1) [
        | inl e ↦ ap (did_access a steps) e ∙ top
        | inr met ↦ elim met.1 [
          | inl k ↦ or_left (is_path_of r p) (is_path_of w p) (path_of_place r (p, met.0) k)
          | inr k ↦ or_right (is_path_of r p) (is_path_of w p) (path_of_place w (p, met.0) k)
        ]
      ]

-- ---- a page of the draft is accessed where the steps accessed its path

step_read_kinds : (t : Tree) (done : List Place) (step : Step) (p : List ℕ) (k : ℕ) → are_slots (target step) ≡ true → is_among (step_reads t done step) (p, Slot k) ≡ true → k < 16
step_read_kinds t done step p k small h = elim (among_either (on_the_way t (target step)) (own_reads t done step) (p, Slot k) h) [
  | inl e ↦
      let found = way_told t (target step) (p, Slot k) e in
      let rest = prefix_told (path_of found.0) (target step) found.3 in
      let low : found.0.1 < 16 = slot_small found.0.0 found.0.1 rest.0 (ap are_slots rest.1 ∙ small) in
      let is : k ≡ found.0.1 = ap (λ (x : Place). number x.1) found.1 in
      let F : ℕ → Type 0 = λ n. n < 16 in
      subst F (sym is) low
  | inr e ↦ own step e
]
  where
    at_slots : (q : List ℕ) → is_among (slots_at q) (p, Slot k) ≡ true → k < 16
    at_slots q e = let found = slots_told q (p, Slot k) e in let F : ℕ → Type 0 = λ n. n < 16 in subst F (sym (ap (λ (x : Place). number x.1) found.2)) found.1

    own : (step : Step) → is_among (own_reads t done step) (p, Slot k) ≡ true → k < 16
    own (ReadAt q) e = never e (cond_no_slot (has t q && not (is_among done (q, Data))) q p k)
    own (ListAt q) e = at_slots q (among_if (has t q) (slots_at q) (p, Slot k) e).1
    own (WriteAt q bytes) e = not_among (p, Slot k) e
    own (MakeAt c) e = at_slots (path_of c) (among_if (can_make t c) (slots_at (path_of c)) (p, Slot k) e).1
    own (DropAt c) e = not_among (p, Slot k) e

pub reads_kinds : (t : Tree) (done : List Place) (steps : List Step) (p : List ℕ) (k : Kind) → list_all (λ (s : Step). are_slots (target s)) steps ≡ true
    → is_among (all_reads t done steps) (p, k) ≡ true → IsKind k
reads_kinds t done steps p Data small h = tt
reads_kinds t done [] p (Slot k) small h = not_among (p, Slot k) h
reads_kinds t done (step ∷ steps) p (Slot k) small h = elim (among_either (step_reads t done step) (all_reads (after t step) (done ++ step_writes t step) steps) (p, Slot k) h) [
  | inl e ↦ step_read_kinds t done step p k (first_so (are_slots (target step)) (list_all (λ (s : Step). are_slots (target s)) steps) small) e
  | inr e ↦ reads_kinds (after t step) (done ++ step_writes t step) steps p (Slot k) (second_so (are_slots (target step)) (list_all (λ (s : Step). are_slots (target s)) steps) small) e
]

pub accessed_test : (store : Store) (root : ℕ) (a : Tree) (steps : List Step) (d : View) → StandsFor store root a steps d → (p : List ℕ)
    → option_map_or is_accessed (d p) false ≡ did_access a steps p
accessed_test store root a steps d was p = same_test _ _ (there (d p) refl) back
  where
    there : (o : Option Copied) → d p ≡ o → option_map_or is_accessed o false ≡ true → did_access a steps p ≡ true
    there None e h = never h refl
    there (Some c) e h =
        let met = accessed_met store root a steps d was p c e h in
        elim met.1 [
          | inl g ↦ or_left (is_path_of (all_reads a [] steps) p) (is_path_of (all_writes a steps) p) (path_of_place (all_reads a [] steps) (p, met.0) g)
          | inr g ↦ or_right (is_path_of (all_reads a [] steps) p) (is_path_of (all_writes a steps) p) (path_of_place (all_writes a steps) (p, met.0) g)
        ]

    of : (c : Copied) × (d p ≡ Some c) × (is_accessed c ≡ true) → option_map_or is_accessed (d p) false ≡ true
    of x = ap (λ (o : Option Copied). option_map_or is_accessed o false) x.1 ∙ x.2

    back : did_access a steps p ≡ true → option_map_or is_accessed (d p) false ≡ true
    back h = elim (or_told (is_path_of (all_reads a [] steps) p) (is_path_of (all_writes a steps) p) h) [
      | inl e ↦
          let found = path_place (all_reads a [] steps) p e in
          let here : is_among (all_reads a [] steps) (p, found.0.1) ≡ true = ap (λ (q : List ℕ). is_among (all_reads a [] steps) (q, found.0.1)) (sym found.2) ∙ found.1 in
          of (read_accessed store root a steps d was p found.0.1 (reads_kinds a [] steps p found.0.1 was.kept here) here)
      | inr e ↦
          let found = path_place (all_writes a steps) p e in
          let here : is_among (all_writes a steps) (p, found.0.1) ≡ true = ap (λ (q : List ℕ). is_among (all_writes a steps) (q, found.0.1)) (sym found.2) ∙ found.1 in
          of (write_accessed store root a steps d was p found.0.1 (writes_kinds a steps p found.0.1 was.kept here) here)
    ]
