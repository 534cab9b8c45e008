-- What a flush makes is what a walk asks of a later version.
use Rattle.std.proofs.Common.{◌≡◌, ℕ, zero, suc, ◌<◌, true, false, ◌&&◌, ◌||◌, List, [], ◌∷◌, ◌++◌, length, slice_get, inl, inr, refl, sym, ap, subst, ◌∙◌, Option, Some, None, option_map, is_some, arith, length-append}
use Rattle.std.specs.Cmp.{first_so, second_so}
use Rattle.std.specs.Option.{option_map_or, option_and_then}
use Rattle.afs_base.specs.Path.{is_prefix, are_slots}
use Rattle.afs_base.specs.declared.kind.Kind.TheVariants.{Data, Slot}
use Rattle.ref_flags.specs.Flagged.{Flagged, no_flags}
use Rattle.tree_model.specs.declared.step.Step.{Step}
use Rattle.tree_model.specs.Trees.{Tree, has, IsTree, tree_after}
use Rattle.tree_model.specs.Accesses.{Place, is_among, all_writes, touches, written_paths}
use Rattle.tree_model.proofs.Paths.{never, same_test, same_self, same_is, both_true, or_left, or_right, or_told, prefix_append, prefix_trans}
use Rattle.page_codec.specs.Values.{ReferenceValue, PageValue}
use Rattle.page_places.specs.Places.{Store, same, block_at, slot_block, has_bit}
use Rattle.page_places.proofs.Facts.{at_root}
use Rattle.draft_model.specs.Views.{Copied, View, copy_of, copies, live}
use Rattle.draft_model.specs.Stands.{StandsFor}
use Rattle.draft_model.specs.Told.{is_one_of, modified_of, AreFresh}
use Rattle.draft_model.specs.Flush.{Placed, IsPlaced, block_of, copied_flags, flushed_slot, flushed_page, AreWhole, Flushed}
use Rattle.draft_model.proofs.Facts.{push}
use Rattle.draft_model.proofs.Flushing.{slots_get, slots_length, block_told, written_told, copied_at, flushes}
use Rattle.draft_model.proofs.Keeping.{same_walk}
use Rattle.draft_model.proofs.Moves.{slot_small}
use Rattle.draft_model.proofs.Telling.{tells_flags, tells_masks, touches_of, touched, fresh_told}
use Rattle.joint_walk.specs.Later.{is_own, slot_flags, AreMarks}
use Rattle.joint_walk.specs.Laws.{LaterLaw}

some_of : {A : Type 0} (o : Option A) → is_some o ≡ true → (x : A) × (o ≡ Some x)
some_of None h = never h refl
some_of (Some x) h = (x, refl)

none_of : {A : Type 0} (o : Option A) → is_some o ≡ false → o ≡ None
none_of None h = refl
none_of (Some x) h = never refl h

got : (xs : List ReferenceValue) (k : ℕ) → k < length xs → (r : ReferenceValue) × (slice_get xs k ≡ Some r)
got [] k h = absurd (omega arith)
got (r ∷ xs) zero h = (r, refl)
got (r ∷ xs) (suc k) h = got xs k (omega arith)

module _ (d : View) (placed : List Placed) (old new : Store) (base root : ℕ) (a : Tree) (steps : List Step) (was : StandsFor old base a steps d)
    (plan : IsPlaced d placed) (flushed : Flushed d placed base old new) (whole : AreWhole new) (at_top : block_of placed [] ≡ Some root) where
  abbrev t : Tree
  t = tree_after a steps

  abbrev w : List Place
  w = all_writes a steps

  tree : IsTree t
  tree = was.stands.shape.tree

  -- ---- a page was written where it is the version's own

  fresh_is : (p : List ℕ) → is_one_of plan.fresh p ≡ (touches w p && has t p)
  fresh_is p = fresh_told old base a steps d plan.fresh plan.are was p

  top_own : is_own a steps [] ≡ true
  top_own = both_true (has t []) true tree.root refl

  -- `/` is written, as the page above all that is fresh, or alone
  top_written : (fresh : List (List ℕ)) → AreFresh d fresh → is_one_of (written_paths fresh) [] ≡ true
  top_written [] are = refl
  top_written (q ∷ rest) are =
      let is = (are.each q).0 (or_left (same q q) (is_one_of rest q) (same_self q)) in
      let r = is.1.0 in
      let k = is.1.1.0 in
      let wrote : is_among w (q ++ r, k) ≡ true = sym (was.stands.written (q ++ r) k is.1.1.1) ∙ is.1.1.2 in
      fresh_told old base a steps d (q ∷ rest) are was [] ∙ both_true (touches w []) (has t []) (touches_of w [] (q ++ r, k) wrote refl) tree.root

  also_written : (fresh : List (List ℕ)) (p : List ℕ) → is_one_of fresh p ≡ true → is_one_of (written_paths fresh) p ≡ true
  also_written [] p h = never h refl
  also_written (q ∷ rest) p h = h

  own_is : (p : List ℕ) → is_some (block_of placed p) ≡ is_own a steps p
  own_is p = same_test _ _ there back
    where
      listed : is_some (block_of placed p) ≡ is_one_of (written_paths plan.fresh) p
      listed = block_told placed p ∙ ap (λ (ps : List (List ℕ)). is_one_of ps p) plan.paths

      there : is_some (block_of placed p) ≡ true → is_own a steps p ≡ true
      there h = elim (written_told plan.fresh p (sym listed ∙ h)) [
        | inl e ↦
            let both = sym (fresh_is p) ∙ e in
            both_true (has t p) (same p [] || touches w p) (second_so (touches w p) (has t p) both) (or_right (same p []) (touches w p) (first_so (touches w p) (has t p) both))
        | inr e ↦ ap (is_own a steps) e ∙ top_own
      ]

      back : is_own a steps p ≡ true → is_some (block_of placed p) ≡ true
      back h = listed ∙ elim (or_told (same p []) (touches w p) (second_so (has t p) (same p [] || touches w p) h)) [
        | inl e ↦ ap (is_one_of (written_paths plan.fresh)) (same_is p [] e) ∙ top_written plan.fresh plan.are
        | inr e ↦ also_written plan.fresh p (fresh_is p ∙ both_true (touches w p) (has t p) e (first_so (has t p) (same p [] || touches w p) h))
      ]

  -- with an own page those above it are the version's own too
  own_above : (p l : List ℕ) (s : ℕ) → is_own a steps (p ++ s ∷ l) ≡ true → is_own a steps (p ++ s ∷ []) ≡ true
  own_above p l s h =
      let here = p ++ s ∷ [] in
      let below = p ++ s ∷ l in
      let on : is_prefix here below ≡ true = let F : List ℕ → Type 0 = λ x. is_prefix here x ≡ true in subst F (push p s l) (prefix_append here l) in
      both_true (has t here) (same here [] || touches w here) (tree.closed below here on (first_so (has t below) (same below [] || touches w below) h))
      (or_right (same here []) (touches w here) (elim (or_told (same below []) (touches w below) (second_so (has t below) (same below [] || touches w below) h)) [
        | inl e ↦ absurd (let none = ap length (same_is below [] e) in omega (arith, none, length-append p (s ∷ l)))
        | inr e ↦ let x = touched w below e in touches_of w here x.0 x.1 (prefix_trans here below x.0.0 on x.2)
      ]))

  live_own : (p : List ℕ) (b : ℕ) → block_of placed p ≡ Some b → live (copies d) p ≡ true
  live_own p b at = elim (written_told plan.fresh p (sym (block_told placed p ∙ ap (λ (ps : List (List ℕ)). is_one_of ps p) plan.paths) ∙ ap is_some at)) [
    | inl e ↦ ((plan.are.each p).0 e).0
    | inr e ↦ ap (live (copies d)) e ∙ was.stands.shape.top
  ]

  -- ---- the slots of a page that was written

  module _ (p : List ℕ) (b : ℕ) (at : block_of placed p ≡ Some b) where
    copy : (c : Copied) × (d p ≡ Some c)
    copy = let c = copied_at d p (live_own p b at) in (c.0, c.1)

    holds : new b ≡ Some (flushed_page d placed p copy.0.page)
    holds = flushed.page p b copy.0 at copy.1

    slot_is : (s : ℕ) → s < 16
        → (r : ReferenceValue) × (slice_get (flushed_page d placed p copy.0.page).refs s ≡ Some (flushed_slot (d (p ++ s ∷ [])) (block_of placed (p ++ s ∷ [])) r))
    slot_is s small =
        let sixteen : length copy.0.page.refs ≡ 16 = sym (slots_length d placed p 0 copy.0.page.refs) ∙ whole b (flushed_page d placed p copy.0.page) holds in
        let r = got copy.0.page.refs s (omega (arith, sixteen, small)) in
        (r.0, slots_get d placed p 0 copy.0.page.refs s s (omega arith) ∙ ap (option_map (flushed_slot (d (p ++ s ∷ [])) (block_of placed (p ++ s ∷ [])))) r.1)

  slot_below : (p : List ℕ) (s b : ℕ) → block_of placed (p ++ s ∷ []) ≡ Some b → s < 16
  slot_below p s b at =
      let c = copied_at d (p ++ s ∷ []) (live_own (p ++ s ∷ []) b at) in
      let F : List ℕ → Type 0 = λ x. are_slots x ≡ true in
      slot_small p s [] (subst F (sym (at_root (p ++ s ∷ []))) (was.stands.shape.slots (p ++ s ∷ []) (copy_of c.0) c.2.is))

  -- ---- an own page is in its block

  down : (l p : List ℕ) (b y : ℕ) → block_of placed p ≡ Some b → block_of placed (p ++ l) ≡ Some y → block_at new b l ≡ Some y
  down [] p b y at end = sym at ∙ ap (block_of placed) (sym (at_root p)) ∙ end
  down (s ∷ l) p b y at end =
      let own : is_own a steps (p ++ s ∷ []) ≡ true = own_above p l s (sym (own_is (p ++ s ∷ l)) ∙ ap is_some end) in
      let next = some_of (block_of placed (p ++ s ∷ [])) (own_is (p ++ s ∷ []) ∙ own) in
      let r = slot_is p b at s (slot_below p s next.0 next.1) in
      ap (λ (o : Option PageValue). option_and_then (λ x. block_at new x l) (option_and_then (λ (page : PageValue). slot_block page s) o)) (holds p b at)
      ∙ ap (λ (o : Option ReferenceValue). option_and_then (λ x. block_at new x l) (option_and_then (λ (r : ReferenceValue). r.block) o)) r.1
      ∙ ap (λ (o : Option ℕ). option_and_then (λ x. block_at new x l) ((flushed_slot (d (p ++ s ∷ [])) o r.0).block)) next.1
      ∙ down l (p ++ s ∷ []) next.0 y next.1 (ap (block_of placed) (push p s l) ∙ end)

  placed_at : (p : List ℕ) (b : ℕ) → is_own a steps p ≡ true → block_at new root p ≡ Some b → block_of placed p ≡ Some b
  placed_at p b own at = let y = some_of (block_of placed p) (own_is p ∙ own) in y.1 ∙ sym (down p [] root y.0 at_top y.1) ∙ at

  page_is : (p : List ℕ) (b : ℕ) (page : PageValue) → (here : block_of placed p ≡ Some b) → new b ≡ Some page → flushed_page d placed p (copy p b here).0.page ≡ page
  page_is p b page here read = let e = sym (holds p b here) ∙ read in some_is e
    where
      some_is : {x y : PageValue} → Some x ≡ Some y → x ≡ y
      some_is e = cc

  -- ---- marks and masks

  wrote_data : (q : List ℕ) → (copied_flags (d q)).written ≡ is_among w (q, Data)
  wrote_data q = (tells_flags d q old base a steps was).written

  slot_marks : (q : List ℕ) (o : Option ℕ) → block_of placed q ≡ o → (r : ReferenceValue) → AreMarks a steps q ((flushed_slot (d q) o r).flags)
  slot_marks q None e r = record { copied = ap is_some (sym e) ∙ own_is q; written = λ h. never h refl }
  slot_marks q (Some y) e r = record { copied = ap is_some (sym e) ∙ own_is q; written = λ h. wrote_data q }

  marks_are : (p : List ℕ) (b : ℕ) (page : PageValue) (s : ℕ) → is_own a steps p ≡ true → block_at new root p ≡ Some b → new b ≡ Some page → s < 16
      → AreMarks a steps (p ++ s ∷ []) (slot_flags page s)
  marks_are p b page s own at read small =
      let here = placed_at p b own at in
      let r = slot_is p b here s small in
      let F : Flagged → Type 0 = AreMarks a steps (p ++ s ∷ []) in
      subst F (
      ap (λ (o : Option ReferenceValue). option_map_or (λ (r : ReferenceValue). r.flags) o no_flags) (sym r.1)
      ∙ ap (λ (x : PageValue). slot_flags x s) (page_is p b page here read))
      (slot_marks (p ++ s ∷ []) (block_of placed (p ++ s ∷ [])) refl r.0)

  mask_is : (p : List ℕ) (b : ℕ) (page : PageValue) (s : ℕ) → is_own a steps p ≡ true → block_at new root p ≡ Some b → new b ≡ Some page → s < 16
      → has_bit page.modified s ≡ is_among w (p, Slot s)
  mask_is p b page s own at read small =
      let here = placed_at p b own at in
      ap (λ (x : PageValue). has_bit x.modified s) (sym (page_is p b page here read))
      ∙ ap (λ (o : Option Copied). has_bit (modified_of o) s) (sym (copy p b here).1)
      ∙ (tells_masks d p old base a steps was).modified_is s small

pub later : LaterLaw
later d placed old new base root a steps was plan flushed whole at_top =
    let both = flushes d placed old new base root a steps was plan flushed whole at_top in (
      record {
        holds = both.0;
        kept = was.kept;
        whole = whole;
        shares = λ p there shared.
            both.1 p there (none_of (block_of placed p) (own_is d placed old new base root a steps was plan flushed whole at_top p ∙ shared))
            ∙ sym (same_walk old new base flushed.kept p);
        marks = marks_are d placed old new base root a steps was plan flushed whole at_top;
        mask = mask_is d placed old new base root a steps was plan flushed whole at_top;
      },
      record {
        copied = sym (top_own d placed old new base root a steps was plan flushed whole at_top);
        written = λ h. wrote_data d placed old new base root a steps was plan flushed whole at_top [];
      },
    )
