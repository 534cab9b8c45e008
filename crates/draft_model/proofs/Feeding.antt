-- A wanted page that is copied, and the page `/` with which a draft begins.
use Rattle.std.proofs.Common.{◌≡◌, ℕ, Bool, true, false, cond, List, [], ◌∷◌, ◌++◌, length, ◌⊎◌, inl, inr, refl, sym, ap, subst, ◌∙◌, Option, Some, None, option_map, is_some, true≢false}
use Rattle.std.specs.Option.{option_map_or, option_and_then}
use Rattle.std.specs.FinMap as map
use Rattle.afs_base.specs.Path.{is_prefix, are_slots}
use Rattle.afs_base.specs.declared.kind.Kind.{Kind}
use Rattle.afs_base.specs.declared.kind.Kind.TheVariants.{Data, Slot}
use Rattle.tree_model.specs.Trees.{Tree, has, IsTree, tree_after}
use Rattle.tree_model.specs.Accesses.{Place, all_writes}
use Rattle.tree_model.proofs.Paths.{told, never, same_self, same_is, path_told, prefix_append, prefix_told, prefix_child, child_above, false_if}
use Rattle.page_codec.specs.Values.{PageValue}
use Rattle.page_places.specs.Places.{Store, Holds, same, has_bit, slot_block, block_at}
use Rattle.draft_model.specs.Views.{Copied, View, PageCopy, Copies, copy_of, copies, live, LiveAt, IsUncopied, reads_kind, writes_kind, did_read, did_write, Wants}
use Rattle.draft_model.specs.Steps.{fed_page, fed, begun}
use Rattle.draft_model.specs.Stands.{IsShared, SlotStands, Shape, Feeds, Begins}
use Rattle.page_places.proofs.Facts.{block_at_append, block_at_child, at_root}
use Rattle.draft_model.proofs.Facts.{has_bit_none, live_of, push, uncopied_dead}
use Rattle.draft_model.proofs.Ways.{slot_case}
use Rattle.draft_model.proofs.Moves.{some_is, child_is}

abbrev fed_copy : PageValue → PageCopy
fed_copy page = record { live = true; page = record page { modified = 0 } }

abbrev pub fed_copies : Copies → List ℕ → PageValue → Copies
fed_copies h q page p = cond (same p q) (Some (fed_copy page)) (h p)

fed_is : (d : View) (q : List ℕ) (page : PageValue) (p : List ℕ) → copies (fed d q page) p ≡ fed_copies (copies d) q page p
fed_is d q page p = by (same p q)
  where
    by : (b : Bool) → option_map copy_of (cond b (Some (fed_page page)) (d p)) ≡ cond b (Some (fed_copy page)) (option_map copy_of (d p))
    by true = refl
    by false = refl

page_is : (x y : PageValue) → Some x ≡ Some y → x ≡ y
page_is x y e = ap (λ (o : Option PageValue). option_map_or (λ (c : PageValue). c) o x) e

number_is : (x y : ℕ) → Some x ≡ Some y → x ≡ y
number_is x y e = ap (λ (o : Option ℕ). option_map_or (λ (c : ℕ). c) o x) e

-- a page below one that its blocks hold: the slot names its block
slot_shared : (store : Store) (root : ℕ) (a t : Tree) (h : Copies) (q : List ℕ) (b : ℕ) (page : PageValue) → Holds store root a → IsShared store root a t h q b → store b ≡ Some page
    → (g : Copies) → ((s : ℕ) (r : List ℕ) → h ((q ++ s ∷ []) ++ r) ≡ None → g ((q ++ s ∷ []) ++ r) ≡ None) → (w : List Place) (s : ℕ) (changed : Bool) → changed ≡ false
    → SlotStands store root a t w g (q ++ s ∷ []) changed false (slot_block page s)
slot_shared store root a t h q b page base shared holds g none w s changed unchanged = by (slot_block page s) refl
  where
    uncopied : IsUncopied g (q ++ s ∷ [])
    uncopied r = none s r (ap h (push q s r) ∙ shared.uncopied (s ∷ r))

    as_base : (r : List ℕ) → map.get t ((q ++ s ∷ []) ++ r) ≡ map.get a ((q ++ s ∷ []) ++ r)
    as_base r = ap (map.get t) (push q s r) ∙ shared.as_base (s ∷ r) ∙ ap (map.get a) (sym (push q s r))

    by : (o : Option ℕ) → slot_block page s ≡ o → SlotStands store root a t w g (q ++ s ∷ []) changed false o
    by None e =
        let F : List ℕ → Type 0 = λ y. map.get t y ≡ map.get a y in (
          ap is_some (subst F (at_root (q ++ s ∷ [])) (as_base [])
              ∙ base.gone (q ++ s ∷ []) (block_at_child store root q b s page shared.block holds ∙ e)),
          λ _. uncopied,
        )
    by (Some below) e = (
      record { block = block_at_child store root q b s page shared.block holds ∙ e; as_base = as_base; uncopied = uncopied },
      unchanged,
    )

pub shape_fed : (store : Store) (root : ℕ) (a t : Tree) (w : List Place) (h : Copies) (end q : List ℕ) (b : ℕ) (page : PageValue)
    → Holds store root a → Wants h end q b → store b ≡ Some page → are_slots q ≡ true → Shape store root a t w h → Shape store root a t w (fed_copies h q page)
shape_fed store root a t w h end q b page base W holds small S = record {
  tree = S.tree;
  top = alive [] S.top;
  above = λ p u on here. elim (path_told p q) [
    | inl e ↦ elim (prefix_child u W.above W.last (ap (is_prefix u) (sym W.is ∙ sym e) ∙ on)) [
      | inl is ↦ ap (live g) (is ∙ sym W.is) ∙ fed_live
      | inr up ↦ alive u (S.above W.above u up (live_of h W.above W.copy W.at))
    ]
    | inr apart ↦ alive u (S.above p u on (sym (still p apart) ∙ here))
  ];
  data_is = λ p y at. elim (path_told p q) [
    | inl e ↦ ap (map.get t) (e ∙ sym (at_root q)) ∙ shared.as_base [] ∙ ap (map.get a) (at_root q) ∙ held.2
        ∙ ap (λ (z : PageValue). Some z.bytes) held_is ∙ ap (λ (z : PageCopy). Some z.page.bytes) (fed_at p y e at)
    | inr apart ↦ S.data_is p y (at_still p y apart at)
  ];
  level_is = λ p y at. elim (path_told p q) [
    | inl e ↦ ap (λ (z : PageCopy). z.page.level) (sym (fed_at p y e at)) ∙ ap (λ (z : PageValue). z.level) (sym held_is) ∙ held.3 ∙ ap length (sym e)
    | inr apart ↦ S.level_is p y (at_still p y apart at)
  ];
  slot = λ p s y at. elim (path_told p q) [
    | inl e ↦ fed_slot p s y e at
    | inr apart ↦ old_slot p s y (at_still p y apart at)
  ];
  slots = λ p y at. elim (path_told p q) [
    | inl e ↦ ap are_slots e ∙ small
    | inr apart ↦ S.slots p y (sym (ap (λ x. cond x (Some (fed_copy page)) (h p)) apart) ∙ at)
  ];
}
  where
    g : Copies
    g = fed_copies h q page

    shared : IsShared store root a t h q b
    shared =
        let F : List ℕ → Type 0 = λ y. IsShared store root a t h y b in
        subst F (sym W.is) (slot_case store root a t w h S W.above W.last W.copy W.at false (Some b) (ap (live h) (sym W.is) ∙ W.not_yet) W.block).0

    held : (x : PageValue) × (store b ≡ Some x) × (map.get a q ≡ Some x.bytes) × (x.level ≡ length q)
    held = base.page q b shared.block

    held_is : held.0 ≡ page
    held_is = page_is held.0 page (sym held.1 ∙ holds)

    here_is : (p : List ℕ) → p ≡ q → g p ≡ Some (fed_copy page)
    here_is p e = ap (λ x. cond x (Some (fed_copy page)) (h p)) (ap (λ (z : List ℕ). same z q) e ∙ same_self q)

    fed_at : (p : List ℕ) (y : PageCopy) → p ≡ q → LiveAt g p y → fed_copy page ≡ y
    fed_at p y e at = some_is (fed_copy page) y (sym (here_is p e) ∙ at.is)

    fed_live : live g q ≡ true
    fed_live = ap (λ o. option_map_or (λ (z : PageCopy). z.live) o false) (here_is q refl)

    still : (p : List ℕ) → same p q ≡ false → live g p ≡ live h p
    still p apart = ap (λ x. option_map_or (λ (z : PageCopy). z.live) (cond x (Some (fed_copy page)) (h p)) false) apart

    at_still : (p : List ℕ) (y : PageCopy) → same p q ≡ false → LiveAt g p y → LiveAt h p y
    at_still p y apart at = record { is = sym (ap (λ x. cond x (Some (fed_copy page)) (h p)) apart) ∙ at.is; live = at.live }

    alive : (p : List ℕ) → live h p ≡ true → live g p ≡ true
    alive p here = elim (path_told p q) [ inl e ↦ ap (live g) e ∙ fed_live | inr apart ↦ still p apart ∙ here ]

    none_still : (p : List ℕ) → same p q ≡ false → h p ≡ None → g p ≡ None
    none_still p apart none = ap (λ x. cond x (Some (fed_copy page)) (h p)) apart ∙ none

    -- below a dead path other than q, nothing changes
    apart_below : (v r : List ℕ) → live h v ≡ false → same v q ≡ false → same (v ++ r) q ≡ false
    apart_below v r gone apart = false_if (same (v ++ r) q) (λ e. elim (prefix_child v W.above W.last (ap (is_prefix v) (sym (same_is (v ++ r) q e ∙ W.is)) ∙ prefix_append v r)) [
      | inl is ↦ sym apart ∙ ap (λ (z : List ℕ). same z q) (is ∙ sym W.is) ∙ same_self q
      | inr up ↦ sym gone ∙ S.above W.above v up (live_of h W.above W.copy W.at)
    ])

    below_fed : (s : ℕ) (r : List ℕ) → same ((q ++ s ∷ []) ++ r) q ≡ false
    below_fed s r = false_if (same ((q ++ s ∷ []) ++ r) q) (λ e.
        sym (child_above q s) ∙ ap (is_prefix (q ++ s ∷ [])) (sym (same_is ((q ++ s ∷ []) ++ r) q e)) ∙ prefix_append (q ++ s ∷ []) r)

    fed_slot : (p : List ℕ) (s : ℕ) (y : PageCopy) → p ≡ q → LiveAt g p y
        → SlotStands store root a t w g (p ++ s ∷ []) (has_bit y.page.modified s) (live g (p ++ s ∷ [])) (slot_block y.page s)
    fed_slot p s y e at =
        let F : List ℕ → Type 0 = λ z. SlotStands store root a t w g (z ++ s ∷ []) (has_bit y.page.modified s) (live g (z ++ s ∷ [])) (slot_block y.page s) in
        let G : PageCopy → Type 0 = λ z. SlotStands store root a t w g (q ++ s ∷ []) (has_bit z.page.modified s) (live g (q ++ s ∷ [])) (slot_block z.page s) in
        let A : Bool → Type 0 = λ x. SlotStands store root a t w g (q ++ s ∷ []) (has_bit 0 s) x (slot_block page s) in
        let N : List ℕ → Type 0 = λ z. same z q ≡ false in
        let dead : live g (q ++ s ∷ []) ≡ false =
        still (q ++ s ∷ []) (subst N (at_root (q ++ s ∷ [])) (below_fed s [])) ∙ uncopied_dead h (q ++ s ∷ []) (shared.uncopied (s ∷ [])) in
        subst F (sym e) (subst G (fed_at p y e at) (subst A (sym dead)
        (slot_shared store root a t h q b page base shared holds g (λ k r none. none_still ((q ++ k ∷ []) ++ r) (below_fed k r) none) w s (has_bit 0 s) (has_bit_none s))))

    old_slot : (p : List ℕ) (s : ℕ) (y : PageCopy) → LiveAt h p y
        → SlotStands store root a t w g (p ++ s ∷ []) (has_bit y.page.modified s) (live g (p ++ s ∷ [])) (slot_block y.page s)
    old_slot p s y at = elim (path_told (p ++ s ∷ []) q) [ inl e ↦ to_fed e | inr other ↦ to_other other ]
      where
        to_fed : p ++ s ∷ [] ≡ q → SlotStands store root a t w g (p ++ s ∷ []) (has_bit y.page.modified s) (live g (p ++ s ∷ [])) (slot_block y.page s)
        to_fed e =
            let parts = child_is p s W.above W.last (e ∙ W.is) in
            let copy_is : y ≡ W.copy = some_is y W.copy (sym at.is ∙ ap h parts.0 ∙ W.at.is) in
            let block : slot_block y.page s ≡ Some b = (λ i. slot_block (copy_is i).page (parts.1 i)) ∙ W.block in
            let A : Bool → Type 0 = λ x. SlotStands store root a t w g (p ++ s ∷ []) (has_bit y.page.modified s) x (slot_block y.page s) in
            let B : Option ℕ → Type 0 = λ o. SlotStands store root a t w g (p ++ s ∷ []) (has_bit y.page.modified s) true o in
            subst A (sym (ap (live g) e ∙ fed_live)) (subst B (sym block) (ap (block_at store root) e ∙ shared.block))

        to_other : same (p ++ s ∷ []) q ≡ false → SlotStands store root a t w g (p ++ s ∷ []) (has_bit y.page.modified s) (live g (p ++ s ∷ [])) (slot_block y.page s)
        to_other other =
            let A : Bool → Type 0 = λ x. SlotStands store root a t w g (p ++ s ∷ []) (has_bit y.page.modified s) x (slot_block y.page s) in
            subst A (sym (still (p ++ s ∷ []) other)) (by (live h (p ++ s ∷ [])) (slot_block y.page s) refl (S.slot p s y at))
          where
            by : (alive_q : Bool) (o : Option ℕ) → live h (p ++ s ∷ []) ≡ alive_q → SlotStands store root a t w h (p ++ s ∷ []) (has_bit y.page.modified s) alive_q o
                → SlotStands store root a t w g (p ++ s ∷ []) (has_bit y.page.modified s) alive_q o
            by true None e x = x
            by true (Some c) e x = x
            by false None e x = (x.0, λ clear r. none_still ((p ++ s ∷ []) ++ r) (apart_below (p ++ s ∷ []) r e other) (x.1 clear r))
            by false (Some c) e x = (
              record {
                block = x.0.block;
                as_base = x.0.as_base;
                uncopied = λ r. none_still ((p ++ s ∷ []) ++ r) (apart_below (p ++ s ∷ []) r e other) (x.0.uncopied r);
              },
              x.1,
            )

-- nothing was copied where a page is wanted
wanted_none : (store : Store) (root : ℕ) (a t : Tree) (w : List Place) (d : View) (end q : List ℕ) (b : ℕ) → Shape store root a t w (copies d) → Wants (copies d) end q b → d q ≡ None
wanted_none store root a t w d end q b S W = by (d q) (ap (copies d) (W.is ∙ sym (at_root (W.above ++ W.last ∷ [])))
    ∙ (slot_case store root a t w (copies d) S W.above W.last W.copy W.at false (Some b) (ap (live (copies d)) (sym W.is) ∙ W.not_yet) W.block).0.uncopied [])
  where
    by : (o : Option Copied) → option_map copy_of o ≡ None → o ≡ None
    by None e = refl
    by (Some c) e = absurd (true≢false (ap is_some e))

-- the page that is fed has no marks, and there were none
fed_read : (d : View) (q : List ℕ) (page : PageValue) → d q ≡ None → (p : List ℕ) (k : Kind) → did_read (fed d q page) p k ≡ did_read d p k
fed_read d q page none p k = elim (path_told p q) [
  | inl e ↦ ap (λ x. option_map_or (λ (c : Copied). reads_kind c k) (cond x (Some (fed_page page)) (d p)) false) (ap (λ (z : List ℕ). same z q) e ∙ same_self q)
      ∙ clear k ∙ ap (λ (o : Option Copied). option_map_or (λ (c : Copied). reads_kind c k) o false) (sym (ap d e ∙ none))
  | inr apart ↦ ap (λ x. option_map_or (λ (c : Copied). reads_kind c k) (cond x (Some (fed_page page)) (d p)) false) apart
]
  where
    clear : (k : Kind) → reads_kind (fed_page page) k ≡ false
    clear Data = refl
    clear (Slot j) = has_bit_none j

fed_written : (d : View) (q : List ℕ) (page : PageValue) → d q ≡ None → (p : List ℕ) (k : Kind) → did_write (fed d q page) p k ≡ did_write d p k
fed_written d q page none p k = elim (path_told p q) [
  | inl e ↦ ap (λ x. option_map_or (λ (c : Copied). writes_kind c k) (cond x (Some (fed_page page)) (d p)) false) (ap (λ (z : List ℕ). same z q) e ∙ same_self q)
      ∙ clear k ∙ ap (λ (o : Option Copied). option_map_or (λ (c : Copied). writes_kind c k) o false) (sym (ap d e ∙ none))
  | inr apart ↦ ap (λ x. option_map_or (λ (c : Copied). writes_kind c k) (cond x (Some (fed_page page)) (d p)) false) apart
]
  where
    clear : (k : Kind) → writes_kind (fed_page page) k ≡ false
    clear Data = refl
    clear (Slot j) = has_bit_none j

same_shape : (store : Store) (root : ℕ) (a t : Tree) (w : List Place) (h g : Copies) → ((p : List ℕ) → g p ≡ h p) → Shape store root a t w h → Shape store root a t w g
same_shape store root a t w h g is S =
    let F : Copies → Type 0 = λ x. Shape store root a t w x in
    let e : h ≡ g = λ i p. sym (is p) i in
    subst F e S

pub feeds : (d : View) (q : List ℕ) (page : PageValue) → are_slots q ≡ true → Feeds d (fed d q page) q page
feeds d q page small store root a steps end b was W holds =
    let S = was.stands in
    let none : d q ≡ None = wanted_none store root a (tree_after a steps) (all_writes a steps) d end q b S.shape W in
    record {
      base = was.base;
      kept = was.kept;
      stands = record {
        shape = same_shape store root a (tree_after a steps) (all_writes a steps) (fed_copies (copies d) q page) (copies (fed d q page)) (fed_is d q page)
            (shape_fed store root a (tree_after a steps) (all_writes a steps) (copies d) end q b page was.base W holds small S.shape);
        read = λ p k kind. fed_read d q page none p k ∙ S.read p k kind;
        written = λ p k kind. fed_written d q page none p k ∙ S.written p k kind;
      };
    }

-- ---- the beginning

-- what blocks hold is a tree
pub holds_tree : (store : Store) (root : ℕ) (a : Tree) → Holds store root a → IsTree a
holds_tree store root a base = record {
  root = ap is_some (base.page [] root refl).2;
  closed = λ p q on here. by p q (prefix_told q p on) here (block_at store root q) refl;
}
  where
    by : (p q : List ℕ) → (r : List ℕ) × (q ++ r ≡ p) → has a p ≡ true → (o : Option ℕ) → block_at store root q ≡ o → has a q ≡ true
    by p q rest here None e =
        never (sym (ap is_some (base.gone p (ap (block_at store root) (sym rest.1) ∙ block_at_append store root q rest.0
        ∙ ap (option_and_then (λ c. block_at store c rest.0)) e))) ∙ here) refl
    by p q rest here (Some b) e = ap is_some (base.page q b e).2

only_root : (u : List ℕ) → is_prefix u [] ≡ true → u ≡ []
only_root [] on = refl
only_root (s ∷ u) on = never on refl

shape_begun : (store : Store) (root : ℕ) (a : Tree) (page : PageValue) → Holds store root a → store root ≡ Some page → Shape store root a a [] (fed_copies (λ _. None) [] page)
shape_begun store root a page base holds = record {
  tree = holds_tree store root a base;
  top = ap (λ o. option_map_or (λ (z : PageCopy). z.live) o false) (here_is [] refl);
  above = λ p u on here.
      let root_only : u ≡ [] = only_root u (ap (is_prefix u) (sym (is_root p here)) ∙ on) in
      ap (λ o. option_map_or (λ (z : PageCopy). z.live) o false) (here_is u root_only);
  data_is = λ p y at.
      let e = is_root p (live_of g p y at) in
      ap (map.get a) e ∙ held.2 ∙ ap (λ (z : PageValue). Some z.bytes) held_is ∙ ap (λ (z : PageCopy). Some z.page.bytes) (fed_at p y e at);
  level_is = λ p y at.
      let e = is_root p (live_of g p y at) in
      ap (λ (z : PageCopy). z.page.level) (sym (fed_at p y e at)) ∙ ap (λ (z : PageValue). z.level) (sym held_is) ∙ held.3 ∙ ap length (sym e);
  slot = λ p s y at.
      let e = is_root p (live_of g p y at) in
      let F : List ℕ → Type 0 = λ z. SlotStands store root a a [] g (z ++ s ∷ []) (has_bit y.page.modified s) (live g (z ++ s ∷ [])) (slot_block y.page s) in
      let G : PageCopy → Type 0 = λ z. SlotStands store root a a [] g (s ∷ []) (has_bit z.page.modified s) (live g (s ∷ [])) (slot_block z.page s) in
      let A : Bool → Type 0 = λ x. SlotStands store root a a [] g (s ∷ []) (has_bit 0 s) x (slot_block page s) in
      subst F (sym e) (subst G (fed_at p y e at) (subst A (sym (uncopied_dead g (s ∷ []) (none_below s [])))
      (slot_shared store root a a (λ _. None) [] root page base shared holds g (λ k r _. none_below k r) [] s (has_bit 0 s) (has_bit_none s))));
  slots = λ p y at. by_slots p y at (told (same p []));
}
  where
    g : Copies
    g = fed_copies (λ _. None) [] page

    shared : IsShared store root a a (λ _. None) [] root
    shared = record { block = refl; as_base = λ r. refl; uncopied = λ r. refl }

    held : (x : PageValue) × (store root ≡ Some x) × (map.get a [] ≡ Some x.bytes) × (x.level ≡ length {A = ℕ} [])
    held = base.page [] root refl

    held_is : held.0 ≡ page
    held_is = page_is held.0 page (sym held.1 ∙ holds)

    here_is : (p : List ℕ) → p ≡ [] → g p ≡ Some (fed_copy page)
    here_is p e = ap (λ x. cond {A = Option PageCopy} x (Some (fed_copy page)) None) (ap (λ (z : List ℕ). same z []) e ∙ same_self [])

    fed_at : (p : List ℕ) (y : PageCopy) → p ≡ [] → LiveAt g p y → fed_copy page ≡ y
    fed_at p y e at = some_is (fed_copy page) y (sym (here_is p e) ∙ at.is)

    none_below : (s : ℕ) (r : List ℕ) → g (s ∷ r) ≡ None
    none_below s r = ap (λ x. cond {A = Option PageCopy} x (Some (fed_copy page)) None) (false_if (same (s ∷ r) []) (λ e.
        ap (is_prefix (s ∷ [])) (sym (same_is (s ∷ r) [] e)) ∙ prefix_append (s ∷ []) r))

    is_root : (p : List ℕ) → live g p ≡ true → p ≡ []
    is_root [] here = refl
    is_root (s ∷ r) here = never here (uncopied_dead g (s ∷ r) (none_below s r))

    by_slots : (p : List ℕ) (y : PageCopy) → g p ≡ Some y → (same p [] ≡ true) ⊎ (same p [] ≡ false) → are_slots p ≡ true
    by_slots p y at (inl e) = ap are_slots (same_is p [] e)
    by_slots p y at (inr e) = absurd (true≢false (ap is_some (sym at ∙ ap (λ x. cond {A = Option PageCopy} x (Some (fed_copy page)) None) e)))

pub begins : (root : ℕ) (page : PageValue) → Begins (begun page) root page
begins root page store a base holds = record {
  base = base;
  kept = refl;
  stands = record {
    shape = same_shape store root a a [] (fed_copies (λ _. None) [] page) (copies (begun page)) (fed_is (λ _. None) [] page) (shape_begun store root a page base holds);
    read = λ p k kind. fed_read (λ _. None) [] page refl p k;
    written = λ p k kind. fed_written (λ _. None) [] page refl p k;
  };
}
