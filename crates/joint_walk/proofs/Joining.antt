-- Where there is no clash, a draft whose shared pages were merged stands for its steps on the later tree.
use Rattle.std.proofs.Common.{◌≡◌, ℕ, ◌<◌, Bool, true, false, ◌||◌, cond, List, [], ◌∷◌, ◌++◌, length, ◌⊎◌, inl, inr, refl, sym, ap, subst, ◌∙◌, Option, Some, None, option_map, is_some, true≢false}
use Rattle.std.specs.Option.{option_map_or}
use Rattle.std.specs.Cmp.{second_so}
use Rattle.std.specs.FinMap as map
use Rattle.afs_base.specs.Path.{is_prefix, are_slots}
use Rattle.afs_base.specs.declared.kind.Kind.{Kind}
use Rattle.afs_base.specs.declared.kind.Kind.TheVariants.{Data, Slot}
use Rattle.tree_model.specs.declared.step.Step.{Step}
use Rattle.tree_model.specs.Trees.{Tree, has, tree_after}
use Rattle.tree_model.specs.Accesses.{Place, is_among, all_reads, all_writes, reads_of, visible_of, IsClash, touches}
use Rattle.tree_model.specs.Merge.{MovesAlike, Alike, ActsAlike}
use Rattle.tree_model.proofs.Paths.{never, false_if, or_told, same_is, prefix_self, prefix_above, prefix_told, prefix_trans, or_right, both_true}
use Rattle.tree_model.proofs.PlaceFacts.{among_first, among_later}
use Rattle.tree_model.proofs.Law.{law}
use Rattle.tree_model.proofs.Untouched.{unwritten_run, untouched_slot, untouched_run}
use Rattle.page_codec.specs.Values.{PageValue}
use Rattle.page_places.specs.Places.{Store, same, slot_block, block_at, has_bit}
use Rattle.draft_model.specs.Views.{Copied, View, PageCopy, Copies, copy_of, copies, live, LiveAt, IsUncopied, reads_kind, writes_kind, did_read, did_write}
use Rattle.draft_model.specs.Stands.{IsShared, SlotStands, Shape, Stands, StandsFor}
use Rattle.page_places.proofs.Facts.{block_at_child, at_root}
use Rattle.draft_model.proofs.Facts.{live_of}
use Rattle.draft_model.proofs.Ways.{has_live, slot_case}
use Rattle.draft_model.proofs.Feeding.{holds_tree}
use Rattle.draft_model.proofs.Telling.{touched, touches_of, writes_kinds}
use Rattle.joint_walk.proofs.Joins.{joined_block, IsMergedAt, IsJoined}
use Rattle.joint_walk.specs.Later.{is_path_of, did_access, is_own, IsLater}
use Rattle.joint_walk.proofs.Places.{none_some, holds_has, holds_slots, AreAllSlots, run_slots, child_slot}

-- a path of a place
pub path_place : (places : List Place) (p : List ℕ) → is_path_of places p ≡ true → (x : Place) × (is_among places x ≡ true) × (x.0 ≡ p)
path_place [] p h = never h refl
path_place (y ∷ places) p h = by (or_told (same p y.0) (is_path_of places p) h) (path_place places p)
  where
    by : (same p y.0 ≡ true) ⊎ (is_path_of places p ≡ true) → (is_path_of places p ≡ true → (x : Place) × (is_among places x ≡ true) × (x.0 ≡ p))
        → (x : Place) × (is_among (y ∷ places) x ≡ true) × (x.0 ≡ p)
    by (inl e) rest = (y, among_first y places, sym (same_is p y.0 e))
    by (inr e) rest = let found = rest e in (found.0, among_later y places found.0 found.1, found.2)

unmarked : (d : View) (p : List ℕ) (k : Kind) → copies d p ≡ None → did_write d p k ≡ false
unmarked d p k none = by (d p) none
  where
    by : (o : Option Copied) → option_map copy_of o ≡ None → option_map_or (λ (c : Copied). writes_kind c k) o false ≡ false
    by None e = refl
    by (Some c) e = absurd (true≢false (ap is_some e))

-- where nothing was copied at or below q, nothing was written there
pub untouched_below : (store : Store) (root : ℕ) (a : Tree) (steps : List Step) (d : View) → StandsFor store root a steps d → (q : List ℕ)
    → IsUncopied (copies d) q → touches (all_writes a steps) q ≡ false
untouched_below store root a steps d was q none = false_if _ (λ h.
    let found = touched (all_writes a steps) q h in
    let x = found.0 in
    let rest = prefix_told q x.0 found.2 in
    let gone : copies d x.0 ≡ None = ap (copies d) (sym rest.1) ∙ none rest.0 in
    sym (unmarked d x.0 x.1 gone) ∙ was.stands.written x.0 x.1 (writes_kinds a steps x.0 x.1 was.kept found.1) ∙ found.1)

-- the mark of a slot in a live page
pub slot_mark : (d : View) (p : List ℕ) (s : ℕ) (c : PageCopy) → LiveAt (copies d) p c → did_write d p (Slot s) ≡ has_bit c.page.modified s
slot_mark d p s c at = by (d p) at.is
  where
    by : (o : Option Copied) → option_map copy_of o ≡ Some c → option_map_or (λ (x : Copied). writes_kind x (Slot s)) o false ≡ has_bit c.page.modified s
    by None e = none_some c None refl e
    by (Some x) e = ap (λ (o : Option PageCopy). option_map_or (λ (y : PageCopy). has_bit y.page.modified s) o false) e

module _ (store : Store) (base root : ℕ) (a : Tree) (steps other : List Step) (d : View) (was : StandsFor store base a steps d)
    (later : IsLater store base root a other) (none : IsClash (reads_of a steps) (visible_of a other) None)
    (accessed : (p : List ℕ) → live (copies d) p ≡ true → did_access a steps p ≡ true) where
  abbrev pub b : Tree
  b = tree_after a other

  abbrev pub t : Tree
  t = tree_after a steps

  abbrev pub u : Tree
  u = tree_after b steps

  abbrev pub w : List Place
  w = all_writes a steps

  abbrev pub h : Copies
  h = copies d

  shape : Shape store base a t w h
  shape = was.stands.shape

  acts : ActsAlike a b steps
  acts = law a steps other (holds_tree store base a was.base) none

  al : Alike a b t u (all_reads a [] steps) w
  al = acts.alike

  -- ---- what is there

  moves : (p : List ℕ) → did_access a steps p ≡ true
      → ((q : List ℕ) → is_prefix q p ≡ true → has t q ≡ has u q) × ((q : List ℕ) → is_prefix q p ≡ true → has a q ≡ has b q)
  moves p h = elim (or_told (is_path_of (all_reads a [] steps) p) (is_path_of w p) h) [
    | inl e ↦ let found = path_place (all_reads a [] steps) p e in of p found.0 found.2 (al.read found.0 found.1)
    | inr e ↦ let found = path_place w p e in of p found.0 found.2 (al.written found.0 found.1)
  ]
    where
      of : (p : List ℕ) (x : Place) → x.0 ≡ p → MovesAlike a b t u x
          → ((q : List ℕ) → is_prefix q p ≡ true → has t q ≡ has u q) × ((q : List ℕ) → is_prefix q p ≡ true → has a q ≡ has b q)
      of p x is m = (
        λ q on. m.above q (ap (is_prefix q) is ∙ on),
        λ q on. m.base q (ap (is_prefix q) is ∙ on),
      )

  live_there : (p : List ℕ) → live h p ≡ true → has u p ≡ true
  live_there p here = sym ((moves p (accessed p here)).0 p (prefix_self p)) ∙ has_live store base a t w h shape p here

  live_based : (p : List ℕ) → live h p ≡ true → has a p ≡ has b p
  live_based p here = (moves p (accessed p here)).1 p (prefix_self p)

  slots_b : AreAllSlots b
  slots_b = holds_slots store root b later.whole later.holds

  slots_a : AreAllSlots a
  slots_a = holds_slots store base a later.whole was.base

  slots_u : AreAllSlots u
  slots_u = run_slots b steps slots_b was.kept

  -- the slots of a live page that were written lead to the same on both trees
  written_slot : (p : List ℕ) (s : ℕ) (c : PageCopy) → LiveAt h p c → has_bit c.page.modified s ≡ true → has t (p ++ s ∷ []) ≡ false → has u (p ++ s ∷ []) ≡ false
  written_slot p s c at changed gone = false_if _ (λ e.
      let small = child_slot p s (slots_u (p ++ s ∷ []) e) in
      let among : is_among w (p, Slot s) ≡ true = sym (was.stands.written p (Slot s) small) ∙ slot_mark d p s c at ∙ changed in
      sym gone ∙ (al.written (p, Slot s) among).same ∙ e)

  -- .. and those that were not are as in the later base
  unwritten_slot : (p : List ℕ) (s : ℕ) (c : PageCopy) → LiveAt h p c → has_bit c.page.modified s ≡ false → s < 16 → has u (p ++ s ∷ []) ≡ has b (p ++ s ∷ [])
  unwritten_slot p s c at changed small =
      let not_a : is_among w (p, Slot s) ≡ false = sym (was.stands.written p (Slot s) small) ∙ slot_mark d p s c at ∙ changed in
      let not_b : is_among (all_writes b steps) (p, Slot s) ≡ false = ap (λ (xs : List Place). is_among xs (p, Slot s)) acts.writes ∙ not_a in
      (untouched_slot b steps p s small (live_there p (live_of h p c at)) not_b).1

  unwritten_before : (p : List ℕ) (s : ℕ) (c : PageCopy) → LiveAt h p c → has_bit c.page.modified s ≡ false → s < 16
      → (has a p ≡ true) × (has t (p ++ s ∷ []) ≡ has a (p ++ s ∷ []))
  unwritten_before p s c at changed small =
      let not_a : is_among w (p, Slot s) ≡ false = sym (was.stands.written p (Slot s) small) ∙ slot_mark d p s c at ∙ changed in
      untouched_slot a steps p s small (has_live store base a t w h shape p (live_of h p c at)) not_a

  -- a page of the later base, at or below which nothing was copied
  shared_on : (h' : Copies) (q : List ℕ) (y : ℕ) → IsUncopied h q → IsUncopied h' q → block_at store root q ≡ Some y → has u q ≡ true → IsShared store root b u h' q y
  shared_on h' q y bare bare' at there =
      let clean : touches (all_writes b steps) q ≡ false = ap (λ (xs : List Place). touches xs q) acts.writes ∙ untouched_below store base a steps d was q bare in
      record { block = at; as_base = (untouched_run b steps q there clean).1; uncopied = bare' }

  -- ---- a fresh page

  -- nothing was copied where a slot is neither live nor changed
  bare_slot : (p : List ℕ) (s : ℕ) (c : PageCopy) → LiveAt h p c → live h (p ++ s ∷ []) ≡ false → has_bit c.page.modified s ≡ false → IsUncopied h (p ++ s ∷ [])
  bare_slot p s c at dead changed = by (slot_block c.page s) refl
    where
      by : (o : Option ℕ) → slot_block c.page s ≡ o → IsUncopied h (p ++ s ∷ [])
      by None e = (slot_case store base a t w h shape p s c at false None dead e).1 changed
      by (Some y) e = (slot_case store base a t w h shape p s c at false (Some y) dead e).0.uncopied

  slot_fresh : (h' : Copies) → ((q : List ℕ) → IsUncopied h q → IsUncopied h' q) → (p : List ℕ) (s x : ℕ) (c : PageCopy) (theirs : PageValue)
      → LiveAt h p c → block_at store root p ≡ Some x → store x ≡ Some theirs
      → (alive changed : Bool) (mine others : Option ℕ)
      → live h (p ++ s ∷ []) ≡ alive → has_bit c.page.modified s ≡ changed → slot_block c.page s ≡ mine → slot_block theirs s ≡ others
      → SlotStands store root b u w h' (p ++ s ∷ []) changed alive (joined_block alive changed mine others)
  slot_fresh h' still p s x c theirs at in_later is true changed mine (Some y) al ch mi ot =
      block_at_child store root p x s theirs in_later is ∙ ot
  slot_fresh h' still p s x c theirs at in_later is true changed None None al ch mi ot =
      slot_case store base a t w h shape p s c at true None al mi
  slot_fresh h' still p s x c theirs at in_later is true changed (Some z) None al ch mi ot =
      let in_base : block_at store base (p ++ s ∷ []) ≡ Some z = slot_case store base a t w h shape p s c at true (Some z) al mi in
      let gone : has b (p ++ s ∷ []) ≡ false = ap is_some (later.holds.gone (p ++ s ∷ []) (block_at_child store root p x s theirs in_later is ∙ ot)) in
      never (sym (live_based (p ++ s ∷ []) al) ∙ holds_has store base a was.base (p ++ s ∷ []) z in_base) gone
  slot_fresh h' still p s x c theirs at in_later is false true None others al ch mi ot =
      let before = slot_case store base a t w h shape p s c at false None al mi in
      (written_slot p s c at ch before.0, λ e. absurd (true≢false e))
  slot_fresh h' still p s x c theirs at in_later is false true (Some z) others al ch mi ot =
      never ch (slot_case store base a t w h shape p s c at false (Some z) al mi).1
  slot_fresh h' still p s x c theirs at in_later is false false mine None al ch mi ot =
      let gone : has b (p ++ s ∷ []) ≡ false = ap is_some (later.holds.gone (p ++ s ∷ []) (block_at_child store root p x s theirs in_later is ∙ ot)) in (
        false_if _ (λ e. sym gone ∙ sym (unwritten_slot p s c at ch (child_slot p s (slots_u (p ++ s ∷ []) e))) ∙ e),
        λ e. still (p ++ s ∷ []) (bare_slot p s c at al ch),
      )
  slot_fresh h' still p s x c theirs at in_later is false false mine (Some y) al ch mi ot =
      let child : block_at store root (p ++ s ∷ []) ≡ Some y = block_at_child store root p x s theirs in_later is ∙ ot in
      let there : has b (p ++ s ∷ []) ≡ true = holds_has store root b later.holds (p ++ s ∷ []) y child in
      let bare = bare_slot p s c at al ch in (
        shared_on h' (p ++ s ∷ []) y bare (still (p ++ s ∷ []) bare) child (unwritten_slot p s c at ch (child_slot p s (slots_b (p ++ s ∷ []) there)) ∙ there),
        refl,
      )

  -- ---- a page that is not fresh

  -- at and below a page that the others did not touch, both bases are the same
  same_below : (p : List ℕ) → has b p ≡ true → is_own a other p ≡ false → (r : List ℕ) → map.get b (p ++ r) ≡ map.get a (p ++ r)
  same_below p there old =
      (untouched_run a other p there (false_if _ (λ e. sym old ∙ both_true (has b p) (same p [] || touches (all_writes a other) p) there (or_right (same p []) (touches (all_writes a other) p) e)))).1

  -- .. and so are the blocks
  same_blocks : (p : List ℕ) (s z : ℕ) → is_own a other p ≡ false → has b p ≡ true → block_at store base (p ++ s ∷ []) ≡ Some z
      → (block_at store root (p ++ s ∷ []) ≡ Some z) × (has b (p ++ s ∷ []) ≡ true)
  same_blocks p s z old there in_base =
      let in_a : has a (p ++ s ∷ []) ≡ true = holds_has store base a was.base (p ++ s ∷ []) z in_base in
      let in_b : has b (p ++ s ∷ []) ≡ true = ap is_some (same_below p there old (s ∷ [])) ∙ in_a in
      let clean : is_own a other (p ++ s ∷ []) ≡ false = false_if _ (λ e.
      sym old ∙ both_true (has b p) (same p [] || touches (all_writes a other) p) there
      (or_right (same p []) (touches (all_writes a other) p) (up (second_so (has b (p ++ s ∷ [])) (same (p ++ s ∷ []) [] || touches (all_writes a other) (p ++ s ∷ [])) e)))) in
      (later.shares (p ++ s ∷ []) in_b clean ∙ in_base, in_b)
    where
      child_not_top : (p : List ℕ) (s : ℕ) → same (p ++ s ∷ []) [] ≡ false
      child_not_top [] s = refl
      child_not_top (x ∷ p) s = refl

      up : (same (p ++ s ∷ []) [] || touches (all_writes a other) (p ++ s ∷ [])) ≡ true → touches (all_writes a other) p ≡ true
      up e = elim (or_told (same (p ++ s ∷ []) []) (touches (all_writes a other) (p ++ s ∷ [])) e) [
        | inl g ↦ never g (child_not_top p s)
        | inr g ↦
            let found = touched (all_writes a other) (p ++ s ∷ []) g in
            touches_of (all_writes a other) p found.0 found.1 (prefix_trans p (p ++ s ∷ []) found.0.0 (prefix_above p s) found.2)
      ]

  slot_old : (h' : Copies) → ((q : List ℕ) → IsUncopied h q → IsUncopied h' q) → (p : List ℕ) (s : ℕ) (c : PageCopy) → LiveAt h p c → is_own a other p ≡ false
      → (alive changed : Bool) (mine : Option ℕ) → live h (p ++ s ∷ []) ≡ alive → has_bit c.page.modified s ≡ changed → slot_block c.page s ≡ mine
      → SlotStands store root b u w h' (p ++ s ∷ []) changed alive mine
  slot_old h' still p s c at old true changed None al ch mi = slot_case store base a t w h shape p s c at true None al mi
  slot_old h' still p s c at old true changed (Some z) al ch mi =
      let in_base : block_at store base (p ++ s ∷ []) ≡ Some z = slot_case store base a t w h shape p s c at true (Some z) al mi in
      let in_a : has a (p ++ s ∷ []) ≡ true = holds_has store base a was.base (p ++ s ∷ []) z in_base in
      let above : has a p ≡ true = (holds_tree store base a was.base).closed (p ++ s ∷ []) p (prefix_above p s) in_a in
      (same_blocks p s z old (sym (live_based p (live_of h p c at)) ∙ above) in_base).0
  slot_old h' still p s c at old false true None al ch mi =
      (written_slot p s c at ch (slot_case store base a t w h shape p s c at false None al mi).0, λ e. absurd (true≢false e))
  slot_old h' still p s c at old false false None al ch mi =
      let before = slot_case store base a t w h shape p s c at false None al mi in (
        false_if _ (λ e.
            let small = child_slot p s (slots_u (p ++ s ∷ []) e) in
            let was_so = unwritten_before p s c at ch small in
            let above : has b p ≡ true = sym (live_based p (live_of h p c at)) ∙ was_so.0 in
            sym before.0 ∙ was_so.1 ∙ sym (ap is_some (same_below p above old (s ∷ []))) ∙ sym (unwritten_slot p s c at ch small) ∙ e),
        λ e. still (p ++ s ∷ []) (before.1 ch),
      )
  slot_old h' still p s c at old false true (Some z) al ch mi =
      never ch (slot_case store base a t w h shape p s c at false (Some z) al mi).1
  slot_old h' still p s c at old false false (Some z) al ch mi =
      let before = (slot_case store base a t w h shape p s c at false (Some z) al mi).0 in
      let in_a : has a (p ++ s ∷ []) ≡ true = holds_has store base a was.base (p ++ s ∷ []) z before.block in
      let above : has a p ≡ true = (holds_tree store base a was.base).closed (p ++ s ∷ []) p (prefix_above p s) in_a in
      let in_later = same_blocks p s z old (sym (live_based p (live_of h p c at)) ∙ above) before.block in (
        shared_on h' (p ++ s ∷ []) z before.uncopied (still (p ++ s ∷ []) before.uncopied) in_later.0
            (unwritten_slot p s c at ch (child_slot p s (slots_a (p ++ s ∷ []) in_a)) ∙ in_later.1),
        refl,
      )

  -- ---- the data

  data_fresh : (p : List ℕ) (x : ℕ) (c : Copied) (theirs : PageValue) → d p ≡ Some c → LiveAt h p (copy_of c) → block_at store root p ≡ Some x → store x ≡ Some theirs
      → (wrote : Bool) → c.written ≡ wrote → map.get u p ≡ Some (cond wrote c.page.bytes theirs.bytes)
  data_fresh p x c theirs is at in_later holds true e =
      let among : is_among w (p, Data) ≡ true = sym (was.stands.written p Data tt) ∙ ap (λ (o : Option Copied). option_map_or (λ (y : Copied). y.written) o false) is ∙ e in
      sym (al.written (p, Data) among).same ∙ shape.data_is p (copy_of c) at
  data_fresh p x c theirs is at in_later holds false e =
      let not_a : is_among w (p, Data) ≡ false = sym (was.stands.written p Data tt) ∙ ap (λ (o : Option Copied). option_map_or (λ (y : Copied). y.written) o false) is ∙ e in
      let not_b : is_among (all_writes b steps) (p, Data) ≡ false = ap (λ (xs : List Place). is_among xs (p, Data)) acts.writes ∙ not_a in
      let held = later.holds.page p x in_later in
      let same_page : held.0 ≡ theirs = page_is held.0 theirs (sym held.1 ∙ holds) in
      (unwritten_run b steps p (live_there p (live_of h p (copy_of c) at)) not_b).1 ∙ held.2 ∙ ap (λ (page : PageValue). Some page.bytes) same_page
    where
      page_is : (x y : PageValue) → Some x ≡ Some y → x ≡ y
      page_is x y e = ap (λ (o : Option PageValue). option_map_or (λ (c : PageValue). c) o x) e

  data_old : (p : List ℕ) (c : PageCopy) → LiveAt h p c → is_own a other p ≡ false → map.get u p ≡ Some c.page.bytes
  data_old p c at old = elim (al.at p) [
    | inl e ↦ sym e ∙ shape.data_is p c at
    | inr e ↦
        let in_a : has a p ≡ true = ap is_some (sym e.0 ∙ shape.data_is p c at) in
        let in_b : has b p ≡ true = sym (live_based p (live_of h p c at)) ∙ in_a in
        e.1 ∙ ap (map.get b) (sym (at_root p)) ∙ same_below p in_b old [] ∙ ap (map.get a) (at_root p) ∙ sym e.0 ∙ shape.data_is p c at
  ]

  -- ---- all pages

  module _ (e : View) (joined : IsJoined store root (is_own a other) d e) where
    abbrev g : Copies
    g = copies e

    marks_same : (p : List ℕ) → (live g p ≡ live h p) × (((k : Kind) → did_read e p k ≡ did_read d p k) × ((k : Kind) → did_write e p k ≡ did_write d p k))
    marks_same p = elim (joined p) [ inl x ↦ plain x.0 | inr x ↦ merged x.0 x.1 x.2 x.3 x.4 ]
      where
        plain : e p ≡ d p → (live g p ≡ live h p) × (((k : Kind) → did_read e p k ≡ did_read d p k) × ((k : Kind) → did_write e p k ≡ did_write d p k))
        plain is = (
          ap (λ (o : Option Copied). option_map_or (λ (x : PageCopy). x.live) (option_map copy_of o) false) is,
          (
            λ k. ap (λ (o : Option Copied). option_map_or (λ (x : Copied). reads_kind x k) o false) is,
            λ k. ap (λ (o : Option Copied). option_map_or (λ (x : Copied). writes_kind x k) o false) is,
          ),
        )

        merged : (c after : Copied) → d p ≡ Some c → e p ≡ Some after → IsMergedAt store root h p c after
            → (live g p ≡ live h p) × (((k : Kind) → did_read e p k ≡ did_read d p k) × ((k : Kind) → did_write e p k ≡ did_write d p k))
        merged c after is now m = (
          ap (λ (o : Option Copied). option_map_or (λ (x : PageCopy). x.live) (option_map copy_of o) false) now ∙ m.stays
              ∙ sym (ap (λ (o : Option Copied). option_map_or (λ (x : PageCopy). x.live) (option_map copy_of o) false) is),
          (
            λ k. ap (λ (o : Option Copied). option_map_or (λ (x : Copied). reads_kind x k) o false) now ∙ reads k
                ∙ sym (ap (λ (o : Option Copied). option_map_or (λ (x : Copied). reads_kind x k) o false) is),
            λ k. ap (λ (o : Option Copied). option_map_or (λ (x : Copied). writes_kind x k) o false) now ∙ writes k
                ∙ sym (ap (λ (o : Option Copied). option_map_or (λ (x : Copied). writes_kind x k) o false) is),
          ),
        )
          where
            reads : (k : Kind) → reads_kind after k ≡ reads_kind c k
            reads Data = m.read
            reads (Slot k) = ap (λ n. has_bit n k) m.searched

            writes : (k : Kind) → writes_kind after k ≡ writes_kind c k
            writes Data = m.written
            writes (Slot k) = ap (λ n. has_bit n k) m.modified

    live_same : (p : List ℕ) → live g p ≡ live h p
    live_same p = (marks_same p).0

    uncopied_still : (q : List ℕ) → IsUncopied h q → IsUncopied g q
    uncopied_still q bare r = elim (joined (q ++ r)) [
      | inl x ↦ ap (option_map copy_of) x.0 ∙ bare r
      | inr x ↦ none_some (copy_of x.0) (h (q ++ r)) (bare r) (ap (option_map copy_of) x.2)
    ]

    -- a live page of the new view, with the page that it was
    record Came (p : List ℕ) (c : PageCopy) : Type 0 where
      before : Copied
      is : d p ≡ Some before
      at : LiveAt h p (copy_of before)
      how : ((c ≡ copy_of before) × (is_own a other p ≡ false))
          ⊎ ((after : Copied) × (c ≡ copy_of after) × IsMergedAt store root h p before after)

    copy_is : (x y : PageCopy) → Some x ≡ Some y → x ≡ y
    copy_is x y e = ap (λ (o : Option PageCopy). option_map_or (λ (c : PageCopy). c) o x) e

    came : (p : List ℕ) (c : PageCopy) → LiveAt g p c → Came p c
    came p c at = elim (joined p) [ inl x ↦ plain x.0 x.1 (d p) refl | inr x ↦ merged x.0 x.1 x.2 x.3 x.4 ]
      where
        here : live h p ≡ true
        here = sym (live_same p) ∙ live_of g p c at

        live_copy : (y : Copied) → d p ≡ Some y → LiveAt h p (copy_of y)
        live_copy y is = record {
          is = ap (option_map copy_of) is;
          live = sym (ap (λ (o : Option Copied). option_map_or (λ (x : PageCopy). x.live) (option_map copy_of o) false) is) ∙ here;
        }

        plain : e p ≡ d p → (is_own a other p ≡ true → live h p ≡ false) → (o : Option Copied) → d p ≡ o → Came p c
        plain same_page stale None is = none_some c (option_map copy_of (e p)) (ap (option_map copy_of) (same_page ∙ is)) at.is
        plain same_page stale (Some y) is = record {
          before = y;
          is = is;
          at = live_copy y is;
          how = inl (
            copy_is c (copy_of y) (sym at.is ∙ ap (option_map copy_of) (same_page ∙ is)),
            false_if _ (λ f. sym (stale f) ∙ here),
          );
        }

        merged : (x after : Copied) → d p ≡ Some x → e p ≡ Some after → IsMergedAt store root h p x after → Came p c
        merged x after is now m = record {
          before = x;
          is = is;
          at = live_copy x is;
          how = inr (after, copy_is c (copy_of after) (sym at.is ∙ ap (option_map copy_of) now), m);
        }

    data_joined : (p : List ℕ) (c : PageCopy) → LiveAt g p c → map.get u p ≡ Some c.page.bytes
    data_joined p c at = let k = came p c at in by k k.how
      where
        by : (k : Came p c) → ((c ≡ copy_of k.before) × (is_own a other p ≡ false)) ⊎ ((after : Copied) × (c ≡ copy_of after) × IsMergedAt store root h p k.before after)
            → map.get u p ≡ Some c.page.bytes
        by k (inl (is, old)) = data_old p (copy_of k.before) k.at old ∙ ap (λ (x : PageCopy). Some x.page.bytes) (sym is)
        by k (inr (after, is, m)) =
            data_fresh p m.block k.before m.theirs k.is k.at m.at m.page k.before.written refl
            ∙ ap Some (sym m.bytes)
            ∙ ap (λ (x : PageCopy). Some x.page.bytes) (sym is)

    level_joined : (p : List ℕ) (c : PageCopy) → LiveAt g p c → c.page.level ≡ length p
    level_joined p c at = let k = came p c at in by k k.how
      where
        by : (k : Came p c) → ((c ≡ copy_of k.before) × (is_own a other p ≡ false)) ⊎ ((after : Copied) × (c ≡ copy_of after) × IsMergedAt store root h p k.before after)
            → c.page.level ≡ length p
        by k (inl (is, old)) = ap (λ (x : PageCopy). x.page.level) is ∙ shape.level_is p (copy_of k.before) k.at
        by k (inr (after, is, m)) = ap (λ (x : PageCopy). x.page.level) is ∙ m.level ∙ shape.level_is p (copy_of k.before) k.at

    slot_joined : (p : List ℕ) (s : ℕ) (c : PageCopy) → LiveAt g p c
        → SlotStands store root b u w g (p ++ s ∷ []) (has_bit c.page.modified s) (live g (p ++ s ∷ [])) (slot_block c.page s)
    slot_joined p s c at = let k = came p c at in
        let F : Bool → Type 0 = λ alive. SlotStands store root b u w g (p ++ s ∷ []) (has_bit c.page.modified s) alive (slot_block c.page s) in
        subst F (sym (live_same (p ++ s ∷ []))) (by k k.how)
      where
        by : (k : Came p c) → ((c ≡ copy_of k.before) × (is_own a other p ≡ false)) ⊎ ((after : Copied) × (c ≡ copy_of after) × IsMergedAt store root h p k.before after)
            → SlotStands store root b u w g (p ++ s ∷ []) (has_bit c.page.modified s) (live h (p ++ s ∷ [])) (slot_block c.page s)
        by k (inl (is, old)) =
            let F : PageCopy → Type 0 = λ x. SlotStands store root b u w g (p ++ s ∷ []) (has_bit x.page.modified s) (live h (p ++ s ∷ [])) (slot_block x.page s) in
            subst F (sym is)
            (slot_old g uncopied_still p s (copy_of k.before) k.at old (live h (p ++ s ∷ [])) (has_bit k.before.page.modified s) (slot_block k.before.page s) refl refl refl)
        by k (inr (after, is, m)) =
            let F : PageCopy → Type 0 = λ x. SlotStands store root b u w g (p ++ s ∷ []) (has_bit x.page.modified s) (live h (p ++ s ∷ [])) (slot_block x.page s) in
            let G : ℕ → Type 0 = λ n. SlotStands store root b u w g (p ++ s ∷ []) (has_bit n s) (live h (p ++ s ∷ [])) (slot_block after.page s) in
            let H : Option ℕ → Type 0 = λ o. SlotStands store root b u w g (p ++ s ∷ []) (has_bit k.before.page.modified s) (live h (p ++ s ∷ [])) o in
            subst F (sym is) (subst G (sym m.modified) (subst H (sym (m.slot s))
            (slot_fresh g uncopied_still p s m.block (copy_of k.before) m.theirs k.at m.at m.page
            (live h (p ++ s ∷ [])) (has_bit k.before.page.modified s) (slot_block k.before.page s) (slot_block m.theirs s) refl refl refl refl)))

    -- the draft stands for its steps on the later tree, with the same accesses
    pub stands_joined : StandsFor store root b steps e
    stands_joined =
        let F : List Place → Type 0 = λ reads. Stands store root b u reads (all_writes b steps) e in
        let G : List Place → Type 0 = λ writes. Stands store root b u (all_reads a [] steps) writes e in
        record {
          base = later.holds;
          kept = was.kept;
          stands = subst F (sym acts.reads) (subst G (sym acts.writes) (record {
            shape = record {
              tree = al.tree_of_b;
              top = live_same [] ∙ shape.top;
              above = λ p q on here. live_same q ∙ shape.above p q on (sym (live_same p) ∙ here);
              data_is = data_joined;
              level_is = level_joined;
              slot = slot_joined;
              slots = slots_joined;
            };
            read = λ p k kind. (marks_same p).1.0 k ∙ was.stands.read p k kind;
            written = λ p k kind. (marks_same p).1.1 k ∙ was.stands.written p k kind;
          }));
        }
      where
        slots_joined : (p : List ℕ) (c : PageCopy) → g p ≡ Some c → are_slots p ≡ true
        slots_joined p c is = by (d p) refl (joined p)
          where
            by : (o : Option Copied) → d p ≡ o → ((e p ≡ d p) × (is_own a other p ≡ true → live h p ≡ false))
                ⊎ ((x : Copied) × (after : Copied) × (d p ≡ Some x) × (e p ≡ Some after) × IsMergedAt store root h p x after) → are_slots p ≡ true
            by (Some y) f j = shape.slots p (copy_of y) (ap (option_map copy_of) f)
            by None f (inl (same_page, stale)) = none_some c (option_map copy_of (e p)) (ap (option_map copy_of) (same_page ∙ f)) is
            by None f (inr (x, after, was_so, now, m)) = none_some x (d p) f was_so
