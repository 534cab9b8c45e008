-- The scene after the one write that commits an update of several files.
use Rattle.std.proofs.Common.{◌≡◌, ◌≢◌, inl, inr, ℕ, zero, suc, ◌-◌, ◌≤◌, true, nat_eq, length, List, [], ◌∷◌, ◌++◌, map, Option, Some, None, Contains, refl, sym, ap, ◌∙◌, subst, arith, slice_get}
use Rattle.std.specs.Prelude.{option_map}
use Rattle.std.specs.List.{list_any}
use Rattle.std.proofs.lemmas.List.{length-map}
use Rattle.std.proofs.lemmas.Option.{slice_get-map}
use Rattle.block_map.specs.States.{Replaces, state_at, held_count}
use Rattle.block_map.specs.declared.states.BlockState.{BlockState}
use Rattle.block_map.specs.declared.states.BlockState.TheVariants.{Kept}
use Rattle.draft_model.specs.Flush.{block_of}
use Rattle.flush_model.specs.Several.{Part, IsBeside, IsCommitted, is_of_some, objects_of}
use Rattle.flush_model.proofs.Commits.{flushed_is_committed}
use Rattle.flush_model.proofs.Plans.{BlockAt, block_at}
use Rattle.script_text.specs.declared.script.Line.{Line}
use Rattle.service_model.specs.Entries.{news_by, news_of}
use Rattle.service_model.specs.Sound.{IsSound}
use Rattle.service_model.specs.Standing.{Scripts, Client, Update, Work, client_of, serial_of}
use Rattle.service_model.proofs.Members.{in_front, in_rest}
use Rattle.store_changes.specs.Stands.{IsPlace}
use Rattle.store_changes.specs.Writes.{Content}
use Rattle.store_changes.proofs.InPlaces.{pages_are_places}
use Rattle.store_model.specs.Changes.{Rewrites, with_commit, with_version}
use Rattle.store_model.specs.Found.{state_in, version_in}
use Rattle.store_model.specs.Laid.{LaidFile, LaidVersion}
use Rattle.store_model.specs.Together.{with_all}
use Rattle.store_model.proofs.Edits.{changed_length, some_is}
use Rattle.store_model.proofs.PlaceLists.{in_cons, not_in}
use Rattle.tree_model.specs.States.{State, File, IsState}
use Rattle.ground_model.specs.Leaves.{LeavesOthers}
use Rattle.ground_model.specs.Own.{IsHeldBy}
use Rattle.ground_model.specs.Scenes.{Scene, IsShared, held_by}
use Rattle.ground_model.specs.Several.{AreWritten, MayCommitSeveral, Renewal, places_of, works_of}
use Rattle.ground_model.proofs.Counting.{held_is_placed}
use Rattle.ground_model.proofs.FilesGrown.{Item, IsItem, IsBesides, IsOf, Grows, made_before, versions_then}
use Rattle.ground_model.proofs.Grown.{with_next}
use Rattle.ground_model.proofs.HeldWrites.{not_kept, past_end, version_of}
use Rattle.ground_model.proofs.KeptMaps.{IsKeptNow, held_on}
use Rattle.ground_model.proofs.Known.{known_more}
use Rattle.ground_model.proofs.Latest.{serial_low}
use Rattle.ground_model.proofs.Links.{rewrites_pages}
use Rattle.ground_model.proofs.MadeOf.{rewritten_top}
use Rattle.ground_model.proofs.SeveralItems.{IsMember, differ_at, item_at, item_of, items_of, member_items, news_are, news_like, none_past, top_item, works_are}
use Rattle.ground_model.proofs.SeveralNotes.{then_is, then_length, then_made, then_others, then_own}
use Rattle.ground_model.proofs.SeveralParts.{all_mine, counts_back, differ, of_update, part_of, part_places, parts_are, parts_of, places_part, unnamed}
use Rattle.ground_model.proofs.SeveralStates.{IsLike, IsTableLike, works_in}

module _ (scripts : Scripts) (k : ℕ) (old : Scene) (line : Line) (u : Update) (top : Renewal) (members : List Renewal) (block : ℕ) (content : Content)
    (states : List BlockState) (at : ℕ) (shared : IsShared old) (sound : IsSound scripts old.standing) (may : MayCommitSeveral scripts old.standing k line u)
    (done : AreWritten old k u top members) (top_is : block_of top.plan.placed [] ≡ Some block) (rewrites : Rewrites old.content content top.root (with_commit block))
    (kept : Replaces k Kept old.states states) (late : old.standing.moment ≤ at) where
  abbrev P : Part
  P = part_of old k top done.each.0

  abbrev Q : List Part
  Q = parts_of old k members done.each.1

  pub c : IsCommitted old.content content old.most old.store old.places (part_of old k top done.each.0) (parts_of old k members done.each.1)
  c =
      flushed_is_committed old.content content old.most old.store old.places shared.laid (part_of old k top done.each.0) (parts_of old k members done.each.1)
      (parts_are scripts k old line u shared sound may top members done) (unnamed scripts k old line u shared sound may top members done) block top_is
      (subst (λ n. Rewrites old.content content n (with_commit block)) (sym done.each.0.draft.base.block_is) rewrites)

  abbrev pub new : Scene
  new = record {
    content = content;
    most = old.most;
    store = c.stands.store;
    places = c.stands.order;
    states = states;
    freed = old.freed;
    standing = then_is scripts old.standing k line u sound may at late;
  }

  abbrev pub first_item : Item
  first_item = item_of old k top done.each.0 c.version

  abbrev pub other_items : List Item
  other_items = items_of old k members done.each.1 c.news

  -- ---- the files

  mine : (w : Work) → Contains (works_of (top ∷ members)) w → Contains u.works w
  mine = of_update scripts k old line u shared sound may top members done

  pub first_is : IsItem old new first_item
  first_is = top_item scripts k old new line u shared sound may top done.each.0 (mine top.work (in_front top.work (works_of members))) c.version c.new c.next c.first

  pub members_are : (i : ℕ) (it : Item) → slice_get other_items i ≡ Some it → IsMember scripts k old new line u shared sound may it
  members_are =
      member_items scripts k old new line u shared sound may members done.each.1 c.news (λ w h. mine w (in_rest top.work (works_of members) w h)) c.each c.others done.none

  each_is : (i : ℕ) (it : Item) → slice_get (first_item ∷ other_items) i ≡ Some it → IsItem old new it
  each_is zero it here = subst (IsItem old new) (some_is here) first_is
  each_is (suc i) it here = (members_are i it here).item

  pub works_there : works_in (first_item ∷ other_items) ≡ works_of (top ∷ members)
  works_there = ap (λ ws. top.work ∷ ws) (works_are old k members done.each.1 c.news old.store.root.blocks c.each)

  pub work_at : (i : ℕ) (it : Item) → slice_get (first_item ∷ other_items) i ≡ Some it → slice_get (works_of (top ∷ members)) i ≡ Some it.work
  work_at i it here =
      ap (λ ws. slice_get ws i) (sym works_there) ∙ slice_get-map (λ (x : Item). x.work) (first_item ∷ other_items) i
      ∙ ap (option_map (λ (x : Item). x.work)) here

  pub items_differ : (i j : ℕ) (x y : Item) → slice_get (first_item ∷ other_items) i ≡ Some x → slice_get (first_item ∷ other_items) j ≡ Some y → x.work.object ≡ y.work.object → i ≡ j
  items_differ i j x y here there e =
      differ_at (works_of (top ∷ members)) (differ scripts k old line u shared sound may top members done) i j x.work y.work (work_at i x here) (work_at j y there) e

  -- an object of a part is that of an item
  some_item : (object : ℕ) → list_any (nat_eq object) (objects_of (P ∷ Q)) ≡ true → IsOf (first_item ∷ other_items) object
  some_item object h = elim (in_cons (suc (top.work.object - 1)) object (objects_of Q) h) [
    | inl e ↦ record { place = zero; item = first_item; at = refl; object_is = sym (counts_back old k top done.each.0) ∙ sym e }
    | inr rest ↦ (let f = item_at old k members done.each.1 c.news old.store.root.blocks c.each object rest in
        record { place = suc f.place; item = f.item; at = f.at; object_is = f.object_is })
  ]

  -- ---- the table

  pub table_like : IsTableLike old.store c.stands.store
  table_like =
      let l : IsLike (with_version P.object (version_in c.version) (state_in old.store)) (with_all c.news (with_version P.object (version_in c.version) (state_in old.store))) =
      news_like c.news (with_version P.object (version_in c.version) (state_in old.store)) in
      let one : length (state_in c.stands.store).files ≡ length c.stands.store.files = length-map c.stands.store.files _ in
      let two : length (state_in old.store).files ≡ length old.store.files = length-map old.store.files _ in
      let grown : length (with_version P.object (version_in c.version) (state_in old.store)).files ≡ length (state_in old.store).files =
      changed_length (λ (f : File). with_next (version_in c.version) f) P.object (state_in old.store).files in
      let is : length (state_in c.stands.store).files ≡ length (with_all c.news (with_version P.object (version_in c.version) (state_in old.store))).files =
      ap (λ (s : State). length s.files) c.stands.is in
      let long = l.long in
      record {
        format = ap (λ (s : State). s.format) c.stands.is ∙ l.format;
        blocks = ap (λ (s : State). s.blocks) c.stands.is ∙ l.blocks;
        key = ap (λ (s : State). s.key) c.stands.is ∙ l.key;
        long = omega (arith, one, two, grown, is, long);
      }

  beside_is : (o : ℕ) → IsBesides (first_item ∷ other_items) (suc o) → slice_get c.stands.store.files o ≡ slice_get old.store.files o
  beside_is o none = by (slice_get old.store.files o) refl
    where
      out : IsBeside (P ∷ Q) o
      out = not_in (objects_of (P ∷ Q)) (suc o) (λ h. (let f = some_item (suc o) h in none f.place f.item f.at f.object_is))

      by : (f : Option LaidFile) → slice_get old.store.files o ≡ f → slice_get c.stands.store.files o ≡ slice_get old.store.files o
      by None e = none_past old.store.files c.stands.store.files o table_like.long e ∙ sym e
      by (Some file) e = c.stands.beside o file out e ∙ sym e

  state_sound : IsState (state_in old.store)
  state_sound = subst IsState (sym shared.state) sound.state

  pub grows : Grows old new (first_item ∷ other_items)
  grows = record {
    each = each_is;
    differ = items_differ;
    beside = beside_is;
    made =
        then_made scripts old.standing k line u sound may at late
        ∙ ap (λ ws. old.standing.made ++ map (news_by old.standing.state) ws) (done.works ∙ sym works_there)
        ∙ ap (λ ms. old.standing.made ++ ms) (sym (news_are old.standing.state (first_item ∷ other_items)));
    pages = rewrites_pages old.content content top.root (with_commit block) (λ x. refl) rewrites;
    tops = rewritten_top old.content content top.root (with_commit block) (λ v. refl) (λ v. refl) rewrites;
    low = sound.low;
    lows = λ object v has.
        let same : serial_of (state_in old.store) object ≡ serial_of old.standing.state object = ap (λ (x : State). serial_of x object) shared.state in
        let low = serial_low old.store object v has state_sound in
        omega (arith, same, low);
  }

  -- ---- the blocks

  count : held_count k old.states ≡ length (places_of (top ∷ members))
  count = shared.map.held k ∙ own k may.client.low ∙ done.number
    where
      own : (n : ℕ) → 1 ≤ n → held_by old.standing n ≡ (client_of old.standing n).held
      own zero low = absurd (omega (arith, low))
      own (suc n) low = refl

  mine_at : (n : ℕ) → is_of_some (P ∷ Q) n ≡ true → IsHeldBy old k n
  mine_at n h =
      let x : BlockAt (places_of (top ∷ members)) n = block_at (places_of (top ∷ members)) n (part_places old k (top ∷ members) done.each n h) in
      ap (state_at old.states) (sym x.block) ∙ all_mine old k (top ∷ members) done.each x.k x.place x.at

  of_mine : (n : ℕ) → IsHeldBy old k n → is_of_some (P ∷ Q) n ≡ true
  of_mine n h =
      places_part old k (top ∷ members) done.each n
      (held_is_placed k (places_of (top ∷ members)) old.states done.apart (all_mine old k (top ∷ members) done.each) count n h)

  pub kept_now : IsKeptNow k old new
  kept_now = record {
    low = may.client.low;
    places = λ n. (
      λ is. elim ((c.stands.places n).0 is) [ inl p ↦ inl p | inr h ↦ inr (mine_at n h) ],
      λ is. (c.stands.places n).1 (elim is [ inl p ↦ inl p | inr h ↦ inr (of_mine n h) ]),
    );
    kept = kept;
    freed = refl;
    blocks = table_like.blocks;
    upkeep = refl;
    others = then_others scripts old.standing k line u sound may at late;
    held = ap (λ (x : Client). x.held) (then_own scripts old.standing k line u sound may at late);
  }

  -- ---- the others

  not_base : (j n : ℕ) → IsHeldBy old j n → n ≢ top.root
  not_base j n is e =
      let v : LaidVersion = done.each.0.draft.base.version in
      let place : IsPlace old.places v.block =
      pages_are_places old.content old.most old.store old.places shared.laid v (version_of old.store top.work.object v done.each.0.draft.base.is) [] v.block refl in
      let here : n ≡ v.block = e ∙ sym done.each.0.draft.base.block_is in
      not_kept old shared.map j n is ((shared.map.kept n (past_end old.states n j is)).1 (inr (inl (subst (λ m. IsPlace old.places m) (sym here) place))))

  pub leaves_then : LeavesOthers k old new
  leaves_then j low ne = record {
    client = then_others scripts old.standing k line u sound may at late j low ne;
    clients = then_length scripts old.standing k line u sound may at late;
    upkeep = λ up own. (λ is. is, λ is. is);
    held = λ n is. (held_on k old new shared.map kept_now j n ne is, sym (rewrites.others n (not_base j n is)));
    versions = λ w v relied. versions_then old new (first_item ∷ other_items) shared grows w.object v relied.is;
    made = λ w v relied m is object serial. made_before old new (first_item ∷ other_items) shared grows w.object v relied.is m is object serial;
    known = λ w on.
        known_more w.object old.standing.made (news_of old.standing.state u) new.standing.made (then_made scripts old.standing k line u sound may at late);
  }
