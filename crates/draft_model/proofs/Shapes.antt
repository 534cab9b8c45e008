-- Each step leaves the copied pages in shape: a write, a make that is done, and a drop that is done.
use Rattle.std.proofs.Common.{◌≡◌, ℕ, Bool, true, false, not, ◌&&◌, ◌||◌, cond, nat_eq, List, [], ◌∷◌, ◌++◌, length, inl, inr, refl, sym, ap, subst, ◌∙◌, Option, Some, None, option_map, eqb-true, eq-eqb}
use Rattle.std.specs.Option.{option_map_or, option_and_then}
use Rattle.std.specs.List.{slice_get, slice_set}
use Rattle.std.specs.FinMap as map
use Rattle.std.specs.Cmp.{first_so, second_so}
use Rattle.std.proofs.lemmas.Bool.{eqb-false}
use Rattle.afs_base.specs.Path.{is_prefix, are_slots}
use Rattle.afs_base.specs.declared.kind.Kind.TheVariants.{Data}
use Rattle.tree_model.specs.declared.step.Step.TheVariants.{WriteAt, MakeAt, DropAt}
use Rattle.tree_model.specs.Children.{path_of}
use Rattle.tree_model.specs.Trees.{Tree, has, IsTree, without, after}
use Rattle.tree_model.specs.Accesses.{Place, is_among}
use Rattle.tree_model.proofs.Paths.{told, never, same_self, same_is, path_told, prefix_self, prefix_above, prefix_append, prefix_trans, prefix_child, child_above, child_not_root, or_right, both_true, false_if}
use Rattle.tree_model.proofs.TreeFacts.{get_insert, get_without, has_insert, has_without}
use Rattle.tree_model.proofs.Untouched.{prefix_either}
use Rattle.page_codec.specs.Values.{ReferenceValue}
use Rattle.page_codec.specs.Blank.{empty_reference}
use Rattle.page_places.specs.Places.{Store, same, has_bit, slot_block}
use Rattle.draft_model.specs.Views.{PageCopy, Copies, live, LiveAt, IsUncopied}
use Rattle.draft_model.specs.Steps.{blank}
use Rattle.draft_model.specs.Stands.{SlotStands, Shape}
use Rattle.page_places.proofs.Facts.{at_root}
use Rattle.draft_model.proofs.Facts.{or_false, and_true, and_false, has_bit_all, blank_slot, slot_block_set, slot_get_other, live_of}
use Rattle.draft_model.proofs.Marks.{modified_more}
use Rattle.draft_model.proofs.Moves.{moved_copy, moved, fresh_copy, some_is, WasLive, was_live, live_moved, none_moved, was_copied, child_is, slot_small, slot_stays, not_below}

-- ---- a write

get_write : (t : Tree) (q bytes x : List ℕ) → map.get (after t (WriteAt q bytes)) x ≡ cond (has t q && same x q) (Some bytes) (map.get t x)
get_write t q bytes x = elim (told (has t q)) [
  | inl e ↦ ap (λ b. map.get (cond b (map.insert t q bytes) t) x) e ∙ get_insert t q bytes x ∙ ap (λ b. cond (b && same x q) (Some bytes) (map.get t x)) (sym e)
  | inr e ↦ ap (λ b. map.get (cond b (map.insert t q bytes) t) x) e ∙ ap (λ b. cond (b && same x q) (Some bytes) (map.get t x)) (sym e)
]

pub shape_writes : (store : Store) (root : ℕ) (a t : Tree) (w x : List Place) (h : Copies) (q bytes : List ℕ)
    → IsTree (after t (WriteAt q bytes)) → ((p : List ℕ) → is_among w (p, Data) ≡ true → is_among x (p, Data) ≡ true) → live h q ≡ has t q
    → Shape store root a t w h → Shape store root a (after t (WriteAt q bytes)) x (moved false (WriteAt q bytes) h)
shape_writes store root a t w x h q bytes tree more told_at S = record {
  tree = tree;
  top = alive [] ∙ S.top;
  above = λ p u on here. alive u ∙ S.above p u on (sym (alive p) ∙ here);
  data_is = λ p c at.
      let was = was_live false (WriteAt q bytes) h p c refl at in
      get_write t q bytes p ∙ by p was.before was.at ∙ ap (λ (y : PageCopy). Some y.page.bytes) (sym was.is);
  level_is = λ p c at.
      let was = was_live false (WriteAt q bytes) h p c refl at in
      ap (λ (y : PageCopy). y.page.level) was.is ∙ S.level_is p was.before was.at;
  slot = λ p s c at.
      let was = was_live false (WriteAt q bytes) h p c refl at in
      let G : PageCopy → Type 0 = λ y. SlotStands store root a (after t (WriteAt q bytes)) x (moved false (WriteAt q bytes) h) (p ++ s ∷ []) (has_bit y.page.modified s) (live (moved false (WriteAt q bytes) h) (p ++ s ∷ [])) (slot_block y.page s) in
      let F : Bool → Type 0 = λ b. SlotStands store root a (after t (WriteAt q bytes)) x (moved false (WriteAt q bytes) h) (p ++ s ∷ []) (has_bit was.before.page.modified s) b (slot_block was.before.page s) in
      subst G (sym was.is) (subst F (sym (alive (p ++ s ∷ [])))
      (slot_stays store root a t (after t (WriteAt q bytes)) w x h (moved false (WriteAt q bytes) h) (p ++ s ∷ []) _ _ _
      (more (p ++ s ∷ [])) (λ dead r. off (p ++ s ∷ []) r dead) (λ dead r none. none_moved false (WriteAt q bytes) h ((p ++ s ∷ []) ++ r) refl none)
      (S.slot p s was.before was.at)));
  slots = λ p c at. let was = was_copied false (WriteAt q bytes) h p c refl at in S.slots p was.0 was.1;
}
  where
    alive : (p : List ℕ) → live (moved false (WriteAt q bytes) h) p ≡ live h p
    alive p = live_moved false (WriteAt q bytes) h p refl ∙ and_true (live h p)

    by : (p : List ℕ) (c : PageCopy) → LiveAt h p c → cond (has t q && same p q) (Some bytes) (map.get t p) ≡ Some (cond (c.live && same p q) bytes c.page.bytes)
    by p c at = elim (told (same p q)) [
      | inl e ↦
          let here : has t q ≡ true = sym told_at ∙ ap (live h) (sym (same_is p q e)) ∙ live_of h p c at in
          (λ i. cond (here i && e i) (Some bytes) (map.get t p)) ∙ (λ i. Some (cond (sym at.live i && sym e i) bytes c.page.bytes))
      | inr e ↦
          ap (λ b. cond b (Some bytes) (map.get t p)) (ap (λ b. has t q && b) e ∙ and_false (has t q)) ∙ S.data_is p c at
          ∙ ap (λ b. Some (cond b bytes c.page.bytes)) (sym (ap (λ b. c.live && b) e ∙ and_false c.live))
    ]

    off : (u r : List ℕ) → live h u ≡ false → map.get (after t (WriteAt q bytes)) (u ++ r) ≡ map.get t (u ++ r)
    off u r dead = get_write t q bytes (u ++ r) ∙ ap (λ b. cond b (Some bytes) (map.get t (u ++ r)))
        (false_if (has t q && same (u ++ r) q) (λ e. absurd (not_below store root a t w h S q u r (told_at ∙ first_so (has t q) (same (u ++ r) q) e) dead (same_is (u ++ r) q (second_so (has t q) (same (u ++ r) q) e)))))

-- ---- a make that is done

pub shape_makes : (store : Store) (root : ℕ) (a t : Tree) (w x : List Place) (h : Copies) (c : List ℕ × ℕ) (top : PageCopy)
    → IsTree (map.insert t (path_of c) []) → ((p : List ℕ) → is_among w (p, Data) ≡ true → is_among x (p, Data) ≡ true) → is_among x (path_of c, Data) ≡ true
    → are_slots (path_of c) ≡ true → LiveAt h c.0 top → live h (path_of c) ≡ false → slot_block top.page c.1 ≡ None → has t (path_of c) ≡ false
    → Shape store root a t w h → Shape store root a (map.insert t (path_of c) []) x (moved true (MakeAt c) h)
shape_makes store root a t w x h c top tree more wrote small top_at dead no_block gone S = record {
  tree = tree;
  top = alive [] S.top;
  above = λ p u on here. elim (path_told p (path_of c)) [
    | inl e ↦ elim (prefix_child u c.0 c.1 (ap (is_prefix u) (sym e) ∙ on)) [
      | inl is ↦ ap (live g) is ∙ made_live
      | inr up ↦ alive u (S.above c.0 u up (live_of h c.0 top top_at))
    ]
    | inr apart ↦ alive u (S.above p u on (sym (still p apart) ∙ here))
  ];
  data_is = λ p y at. elim (path_told p (path_of c)) [
    | inl e ↦ get_insert t (path_of c) [] p ∙ ap (λ b. cond b (Some []) (map.get t p)) (ap (λ (z : List ℕ). same z (path_of c)) e ∙ same_self (path_of c))
        ∙ ap (λ (z : PageCopy). Some z.page.bytes) (made_is p y e at)
    | inr apart ↦
        let was = was_live true (MakeAt c) h p y apart at in
        get_insert t (path_of c) [] p ∙ ap (λ b. cond b (Some []) (map.get t p)) apart
        ∙ S.data_is p was.before was.at ∙ ap (λ (z : PageCopy). Some z.page.bytes) (sym was.is)
  ];
  level_is = λ p y at. elim (path_told p (path_of c)) [
    | inl e ↦ ap (λ (z : PageCopy). z.page.level) (sym (made_is p y e at))
    | inr apart ↦ let was = was_live true (MakeAt c) h p y apart at in ap (λ (z : PageCopy). z.page.level) was.is ∙ S.level_is p was.before was.at
  ];
  slot = λ p s y at. elim (path_told p (path_of c)) [
    | inl e ↦ made_slot p s y e at
    | inr apart ↦ old_slot p s y apart at
  ];
  slots = λ p y at. elim (path_told p (path_of c)) [
    | inl e ↦ ap are_slots e ∙ small
    | inr apart ↦ let was = was_copied true (MakeAt c) h p y apart at in S.slots p was.0 was.1
  ];
}
  where
    g : Copies
    g = moved true (MakeAt c) h

    u : Tree
    u = map.insert t (path_of c) []

    here_is : (p : List ℕ) → p ≡ path_of c → g p ≡ Some (fresh_copy (length p))
    here_is p e = ap (λ b. cond b (Some (fresh_copy (length p))) (option_map (moved_copy true (MakeAt c) p) (h p))) (ap (λ (z : List ℕ). same z (path_of c)) e ∙ same_self (path_of c))

    made_is : (p : List ℕ) (y : PageCopy) → p ≡ path_of c → LiveAt g p y → fresh_copy (length p) ≡ y
    made_is p y e at = some_is (fresh_copy (length p)) y (sym (here_is p e) ∙ at.is)

    made_live : live g (path_of c) ≡ true
    made_live = ap (λ o. option_map_or (λ (z : PageCopy). z.live) o false) (here_is (path_of c) refl)

    still : (p : List ℕ) → same p (path_of c) ≡ false → live g p ≡ live h p
    still p apart = live_moved true (MakeAt c) h p apart ∙ and_true (live h p)

    alive : (p : List ℕ) → live h p ≡ true → live g p ≡ true
    alive p here = elim (path_told p (path_of c)) [ inl e ↦ ap (live g) e ∙ made_live | inr apart ↦ still p apart ∙ here ]

    -- below a dead child of a live page, other than the one that is made, nothing changes
    apart_below : (v r : List ℕ) → live h v ≡ false → same v (path_of c) ≡ false → same (v ++ r) (path_of c) ≡ false
    apart_below v r gone_v apart = false_if (same (v ++ r) (path_of c)) (λ e. elim (prefix_child v c.0 c.1 (ap (is_prefix v) (sym (same_is (v ++ r) (path_of c) e)) ∙ prefix_append v r)) [
      | inl is ↦ sym apart ∙ ap (λ (z : List ℕ). same z (path_of c)) is ∙ same_self (path_of c)
      | inr up ↦ sym gone_v ∙ S.above c.0 v up (live_of h c.0 top top_at)
    ])

    old_slot : (p : List ℕ) (s : ℕ) (y : PageCopy) → same p (path_of c) ≡ false → LiveAt g p y
        → SlotStands store root a u x g (p ++ s ∷ []) (has_bit y.page.modified s) (live g (p ++ s ∷ [])) (slot_block y.page s)
    old_slot p s y apart at = subst G (sym was.is) (elim (path_told (p ++ s ∷ []) (path_of c)) [ inl e ↦ to_made e | inr other ↦ to_other other ])
      where
        was : WasLive true (MakeAt c) h p y
        was = was_live true (MakeAt c) h p y apart at

        G : PageCopy → Type 0
        G z = SlotStands store root a u x g (p ++ s ∷ []) (has_bit z.page.modified s) (live g (p ++ s ∷ [])) (slot_block z.page s)

        to_made : p ++ s ∷ [] ≡ path_of c → G (moved_copy true (MakeAt c) p was.before)
        to_made e =
            let parts = child_is p s c.0 c.1 e in
            let before_is : was.before ≡ top = some_is was.before top (sym was.at.is ∙ ap h parts.0 ∙ top_at.is) in
            let none : slot_block was.before.page s ≡ None = (λ i. slot_block (before_is i).page (parts.1 i)) ∙ no_block in
            let A : Bool → Type 0 = λ b. SlotStands store root a u x g (p ++ s ∷ []) (has_bit (moved_copy true (MakeAt c) p was.before).page.modified s) b (slot_block was.before.page s) in
            let B : Option ℕ → Type 0 = λ o. SlotStands store root a u x g (p ++ s ∷ []) (has_bit (moved_copy true (MakeAt c) p was.before).page.modified s) true o in
            subst A (sym (ap (live g) e ∙ made_live)) (subst B (sym none) (ap (λ (z : List ℕ). is_among x (z, Data)) e ∙ wrote))

        to_other : same (p ++ s ∷ []) (path_of c) ≡ false → G (moved_copy true (MakeAt c) p was.before)
        to_other other =
            let unchanged : (same p c.0 && nat_eq s c.1) ≡ false = false_if (same p c.0 && nat_eq s c.1) (λ e.
            sym other ∙ (λ i. same (same_is p c.0 (first_so (same p c.0) (nat_eq s c.1) e) i ++ eqb-true s c.1 (second_so (same p c.0) (nat_eq s c.1) e) i ∷ []) (path_of c)) ∙ same_self (path_of c)) in
            let bit : has_bit was.before.page.modified s ≡ has_bit (moved_copy true (MakeAt c) p was.before).page.modified s =
            sym (modified_more (same p c.0) was.before.page.modified c.1 s ∙ ap (λ b. has_bit was.before.page.modified s || b) unchanged ∙ or_false (has_bit was.before.page.modified s)) in
            let A : Bool → Type 0 = λ b. SlotStands store root a u x g (p ++ s ∷ []) (has_bit (moved_copy true (MakeAt c) p was.before).page.modified s) b (slot_block was.before.page s) in
            let B : Bool → Type 0 = λ b. SlotStands store root a u x g (p ++ s ∷ []) b (live h (p ++ s ∷ [])) (slot_block was.before.page s) in
            subst A (sym (still (p ++ s ∷ []) other)) (subst B bit
            (slot_stays store root a t u w x h g (p ++ s ∷ []) (has_bit was.before.page.modified s) (live h (p ++ s ∷ [])) (slot_block was.before.page s) (more (p ++ s ∷ []))
            (λ gone_q r. get_insert t (path_of c) [] ((p ++ s ∷ []) ++ r) ∙ ap (λ b. cond b (Some []) (map.get t ((p ++ s ∷ []) ++ r))) (apart_below (p ++ s ∷ []) r gone_q other))
            (λ gone_q r none. none_moved true (MakeAt c) h ((p ++ s ∷ []) ++ r) (apart_below (p ++ s ∷ []) r gone_q other) none)
            (S.slot p s was.before was.at)))

    -- nothing is below the page that was made
    below_made : (s : ℕ) (r : List ℕ) → same ((path_of c ++ s ∷ []) ++ r) (path_of c) ≡ false
    below_made s r = false_if (same ((path_of c ++ s ∷ []) ++ r) (path_of c)) (λ e.
        sym (child_above (path_of c) s) ∙ ap (is_prefix (path_of c ++ s ∷ [])) (sym (same_is ((path_of c ++ s ∷ []) ++ r) (path_of c) e)) ∙ prefix_append (path_of c ++ s ∷ []) r)

    dead_child : (s : ℕ) → live g (path_of c ++ s ∷ []) ≡ false
    dead_child s =
        let F : List ℕ → Type 0 = λ z. same z (path_of c) ≡ false in
        still (path_of c ++ s ∷ []) (subst F (at_root (path_of c ++ s ∷ [])) (below_made s []))
        ∙ false_if (live h (path_of c ++ s ∷ [])) (λ e. sym dead ∙ S.above (path_of c ++ s ∷ []) (path_of c) (prefix_above (path_of c) s) e)

    gone_child : (s : ℕ) → has u (path_of c ++ s ∷ []) ≡ false
    gone_child s =
        let F : List ℕ → Type 0 = λ z. same z (path_of c) ≡ false in
        has_insert t (path_of c) [] (path_of c ++ s ∷ [])
        ∙ ap (λ b. b || has t (path_of c ++ s ∷ [])) (subst F (at_root (path_of c ++ s ∷ [])) (below_made s []))
        ∙ false_if (has t (path_of c ++ s ∷ [])) (λ e. sym gone ∙ S.tree.closed (path_of c ++ s ∷ []) (path_of c) (prefix_above (path_of c) s) e)

    -- what was copied below it before has slots below 16, and those are marked
    uncopied : (s : ℕ) → has_bit 65535 s ≡ false → IsUncopied g (path_of c ++ s ∷ [])
    uncopied s unmarked r = none_moved true (MakeAt c) h ((path_of c ++ s ∷ []) ++ r) (below_made s r) (by (h ((path_of c ++ s ∷ []) ++ r)) refl)
      where
        by : (o : Option PageCopy) → h ((path_of c ++ s ∷ []) ++ r) ≡ o → o ≡ None
        by None e = refl
        by (Some z) e = never (has_bit_all s (slot_small (path_of c) s r (S.slots ((path_of c ++ s ∷ []) ++ r) z e))) unmarked

    made_slot : (p : List ℕ) (s : ℕ) (y : PageCopy) → p ≡ path_of c → LiveAt g p y
        → SlotStands store root a u x g (p ++ s ∷ []) (has_bit y.page.modified s) (live g (p ++ s ∷ [])) (slot_block y.page s)
    made_slot p s y e at =
        let F : List ℕ → Type 0 = λ z. SlotStands store root a u x g (z ++ s ∷ []) (has_bit y.page.modified s) (live g (z ++ s ∷ [])) (slot_block y.page s) in
        let G : PageCopy → Type 0 = λ z. SlotStands store root a u x g (path_of c ++ s ∷ []) (has_bit z.page.modified s) (live g (path_of c ++ s ∷ [])) (slot_block z.page s) in
        let A : Bool → Type 0 = λ b. SlotStands store root a u x g (path_of c ++ s ∷ []) (has_bit 65535 s) b (slot_block (blank (length p)) s) in
        let B : Option ℕ → Type 0 = λ o. SlotStands store root a u x g (path_of c ++ s ∷ []) (has_bit 65535 s) false o in
        subst F (sym e) (subst G (made_is p y e at) (subst A (sym (dead_child s)) (subst B (sym (blank_slot (length p) s)) (gone_child s, uncopied s))))

-- ---- a drop that is done

pub shape_drops : (store : Store) (root : ℕ) (a t : Tree) (w x : List Place) (h : Copies) (c : List ℕ × ℕ) (top : PageCopy)
    → IsTree (without t (path_of c)) → ((p : List ℕ) → is_among w (p, Data) ≡ true → is_among x (p, Data) ≡ true) → LiveAt h c.0 top
    → Shape store root a t w h → Shape store root a (without t (path_of c)) x (moved true (DropAt c) h)
shape_drops store root a t w x h c top tree more top_at S = record {
  tree = tree;
  top = still [] (child_not_root c.0 c.1) ∙ S.top;
  above = λ p v on here.
      let was = sym (live_moved true (DropAt c) h p refl) ∙ here in
      let out : is_prefix (path_of c) v ≡ false = false_if (is_prefix (path_of c) v) (λ e.
      sym (ap not (prefix_trans (path_of c) v p e on)) ∙ second_so (live h p) (not (is_prefix (path_of c) p)) was) in
      still v out ∙ S.above p v on (first_so (live h p) (not (is_prefix (path_of c) p)) was);
  data_is = λ p y at.
      let was = was_live true (DropAt c) h p y refl at in
      get_without t (path_of c) p ∙ ap (λ b. cond (not b) (map.get t p) None) was.uncut
      ∙ S.data_is p was.before was.at ∙ ap (λ (z : PageCopy). Some z.page.bytes) (sym was.is);
  level_is = λ p y at. let was = was_live true (DropAt c) h p y refl at in ap (λ (z : PageCopy). z.page.level) was.is ∙ S.level_is p was.before was.at;
  slot = λ p s y at. old_slot p s y at;
  slots = λ p y at. let was = was_copied true (DropAt c) h p y refl at in S.slots p was.0 was.1;
}
  where
    g : Copies
    g = moved true (DropAt c) h

    u : Tree
    u = without t (path_of c)

    still : (p : List ℕ) → is_prefix (path_of c) p ≡ false → live g p ≡ live h p
    still p out = live_moved true (DropAt c) h p refl ∙ ap (λ b. live h p && not b) out ∙ and_true (live h p)

    old_slot : (p : List ℕ) (s : ℕ) (y : PageCopy) → LiveAt g p y
        → SlotStands store root a u x g (p ++ s ∷ []) (has_bit y.page.modified s) (live g (p ++ s ∷ [])) (slot_block y.page s)
    old_slot p s y at = subst G (sym was.is) (elim (path_told (p ++ s ∷ []) (path_of c)) [ inl e ↦ to_dropped e | inr other ↦ to_other other ])
      where
        was : WasLive true (DropAt c) h p y
        was = was_live true (DropAt c) h p y refl at

        G : PageCopy → Type 0
        G z = SlotStands store root a u x g (p ++ s ∷ []) (has_bit z.page.modified s) (live g (p ++ s ∷ [])) (slot_block z.page s)

        after_copy : PageCopy
        after_copy = moved_copy true (DropAt c) p was.before

        to_dropped : p ++ s ∷ [] ≡ path_of c → G (moved_copy true (DropAt c) p was.before)
        to_dropped e =
            let parts = child_is p s c.0 c.1 e in
            let one : same p c.0 ≡ true = ap (λ (z : List ℕ). same z c.0) parts.0 ∙ same_self c.0 in
            let none : slot_block after_copy.page s ≡ None =
            (λ i. option_and_then (λ (r : ReferenceValue). r.block) (slice_get (cond (one i) (slice_set was.before.page.refs c.1 empty_reference) was.before.page.refs) (parts.1 i)))
            ∙ slot_block_set was.before.page.refs c.1 in
            let marked : has_bit after_copy.page.modified s ≡ true =
            modified_more (same p c.0) was.before.page.modified c.1 s
            ∙ or_right (has_bit was.before.page.modified s) (same p c.0 && nat_eq s c.1) (both_true (same p c.0) (nat_eq s c.1) one (eq-eqb s c.1 parts.1)) in
            let off : live g (p ++ s ∷ []) ≡ false =
            live_moved true (DropAt c) h (p ++ s ∷ []) refl
            ∙ ap (λ b. live h (p ++ s ∷ []) && not b) (ap (is_prefix (path_of c)) e ∙ prefix_self (path_of c)) ∙ and_false (live h (p ++ s ∷ [])) in
            let A : Bool → Type 0 = λ b. SlotStands store root a u x g (p ++ s ∷ []) (has_bit after_copy.page.modified s) b (slot_block after_copy.page s) in
            let B : Option ℕ → Type 0 = λ o. SlotStands store root a u x g (p ++ s ∷ []) (has_bit after_copy.page.modified s) false o in
            subst A (sym off) (subst B (sym none) (
              has_without t (path_of c) (p ++ s ∷ []) ∙ ap (λ b. not b && has t (p ++ s ∷ [])) (ap (is_prefix (path_of c)) e ∙ prefix_self (path_of c)),
              λ unmarked. never marked unmarked,
            ))

        to_other : same (p ++ s ∷ []) (path_of c) ≡ false → G (moved_copy true (DropAt c) p was.before)
        to_other other =
            let out : is_prefix (path_of c) (p ++ s ∷ []) ≡ false = false_if (is_prefix (path_of c) (p ++ s ∷ [])) (λ e. elim (prefix_child (path_of c) p s e) [
              | inl is ↦ sym other ∙ ap (λ (z : List ℕ). same z (path_of c)) (sym is) ∙ same_self (path_of c)
              | inr up ↦ sym was.uncut ∙ up
            ]) in
            let unchanged : (same p c.0 && nat_eq s c.1) ≡ false = false_if (same p c.0 && nat_eq s c.1) (λ e.
            sym other ∙ (λ i. same (same_is p c.0 (first_so (same p c.0) (nat_eq s c.1) e) i ++ eqb-true s c.1 (second_so (same p c.0) (nat_eq s c.1) e) i ∷ []) (path_of c)) ∙ same_self (path_of c)) in
            let bit : has_bit was.before.page.modified s ≡ has_bit after_copy.page.modified s =
            sym (modified_more (same p c.0) was.before.page.modified c.1 s ∙ ap (λ b. has_bit was.before.page.modified s || b) unchanged ∙ or_false (has_bit was.before.page.modified s)) in
            let block : slot_block was.before.page s ≡ slot_block after_copy.page s = elim (told (same p c.0)) [
              | inl one ↦
                  let differ : nat_eq s c.1 ≡ false = ap (λ b. b && nat_eq s c.1) (sym one) ∙ unchanged in
                  sym ((λ i. option_and_then (λ (r : ReferenceValue). r.block) (slice_get (cond (one i) (slice_set was.before.page.refs c.1 empty_reference) was.before.page.refs) s))
                  ∙ ap (option_and_then (λ (r : ReferenceValue). r.block)) (slot_get_other was.before.page.refs c.1 s (eqb-false s c.1 differ)))
              | inr one ↦ sym (λ i. option_and_then (λ (r : ReferenceValue). r.block) (slice_get (cond (one i) (slice_set was.before.page.refs c.1 empty_reference) was.before.page.refs) s))
            ] in
            let A : Bool → Type 0 = λ b. SlotStands store root a u x g (p ++ s ∷ []) (has_bit after_copy.page.modified s) b (slot_block after_copy.page s) in
            let B : Bool → Type 0 = λ b. SlotStands store root a u x g (p ++ s ∷ []) b (live h (p ++ s ∷ [])) (slot_block after_copy.page s) in
            let C : Option ℕ → Type 0 = λ o. SlotStands store root a u x g (p ++ s ∷ []) (has_bit was.before.page.modified s) (live h (p ++ s ∷ [])) o in
            subst A (sym (still (p ++ s ∷ []) out)) (subst B bit (subst C block
            (slot_stays store root a t u w x h g (p ++ s ∷ []) (has_bit was.before.page.modified s) (live h (p ++ s ∷ [])) (slot_block was.before.page s) (more (p ++ s ∷ []))
            (λ gone_q r. get_without t (path_of c) ((p ++ s ∷ []) ++ r) ∙ ap (λ b. cond (not b) (map.get t ((p ++ s ∷ []) ++ r)) None) (apart (p ++ s ∷ []) r gone_q out other))
            (λ gone_q r none. none_moved true (DropAt c) h ((p ++ s ∷ []) ++ r) refl none)
            (S.slot p s was.before was.at))))
          where
            apart : (v r : List ℕ) → live h v ≡ false → is_prefix (path_of c) v ≡ false → same v (path_of c) ≡ false → is_prefix (path_of c) (v ++ r) ≡ false
            apart v r gone_v out_v other_v = false_if (is_prefix (path_of c) (v ++ r)) (λ e. elim (prefix_either (path_of c) v (v ++ r) e (prefix_append v r)) [
              | inl up ↦ sym out_v ∙ up
              | inr down ↦ elim (prefix_child v c.0 c.1 down) [
                | inl is ↦ sym other_v ∙ ap (λ (z : List ℕ). same z (path_of c)) is ∙ same_self (path_of c)
                | inr up ↦ sym gone_v ∙ S.above c.0 v up (live_of h c.0 top top_at)
              ]
            ])
