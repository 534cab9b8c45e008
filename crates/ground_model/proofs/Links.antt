-- The turn of the link of a commit of one file: the scene after it, and what it leaves the other clients.
use Rattle.std.proofs.Common.{◌≡◌, ◌≢◌, ◌⊎◌, ◌↔◌, inl, inr, ℕ, zero, suc, ◌-◌, ◌<◌, ◌≤◌, Bool, true, false, nat_eq, cond, List, [], ◌∷◌, ◌++◌, length, Option, Some, Result, Ok, Contains, refl, sym, ap, ◌∙◌, subst, arith, slice_get, true≢false, eqb-true, ne_eqb}
use Rattle.std.specs.List.{list_any, IsDistinct}
use Rattle.std.specs.Option.{option_map_or}
use Rattle.block_map.specs.States.{state_at, is_held, held_count}
use Rattle.block_map.specs.declared.states.BlockState.{BlockState}
use Rattle.block_map.specs.declared.states.BlockState.TheVariants.{Free, Held, Kept}
use Rattle.block_map.proofs.Replacing.{held_count-Replaces, held_count-Replaces-others}
use Rattle.flush_model.specs.Flushed.{IsFree}
use Rattle.page_codec.specs.Values.{VersionValue}
use Rattle.service_model.specs.Standing.{Client, Work, Made, Upkeep, client_of}
use Rattle.service_model.proofs.Members.{at_place, from_place}
use Rattle.store_changes.specs.Stands.{IsPlace, IsThere}
use Rattle.store_changes.specs.Writes.{Content}
use Rattle.store_changes.proofs.InPlaces.{pages_are_places}
use Rattle.store_changes.proofs.Keeping.{commits_keep_versions}
use Rattle.store_model.specs.Changes.{Rewrites, with_commit, NextVersion, LiesIn, IsLinked, IsTop, changed_at, file_committed, version_in_block, with_version}
use Rattle.store_model.specs.Found.{LaidStore, laid, state_in, state_of, version_in}
use Rattle.store_model.specs.Laid.{LaidFile, LaidVersion, Node, last_laid, page_in}
use Rattle.store_model.specs.Laws.{IsVersionOf, pages_of, page_of_block}
use Rattle.store_model.specs.Members.{names_none}
use Rattle.store_model.specs.Walk.{Refused}
use Rattle.store_model.proofs.Committing.{committing_together}
use Rattle.store_model.proofs.Edits.{some_is, changed_other, get_more, get_past}
use Rattle.store_model.proofs.Gathering.{committing_appends}
use Rattle.store_model.proofs.PlaceLists.{not_in}
use Rattle.store_model.proofs.Reading.{reads_version}
use Rattle.store_model.proofs.Rewriting.{bytes_of}
use Rattle.std.specs.Option.{option_and_then}
use Rattle.tree_model.specs.States.{State}
use Rattle.ground_model.specs.Leaves.{KeepsVersions, LeavesOthers}
use Rattle.ground_model.specs.Own.{IsHeldBy}
use Rattle.ground_model.specs.Scenes.{Scene, HasVersion, IsAsMade, AreAsMade, IsMadeOf, AreMadeOf, IsLinking, AreLinksOf, IsMapped, IsShared, held_by}
use Rattle.ground_model.specs.Steps.{IsLinkSet, IsNoted, IsLatest}
use Rattle.ground_model.proofs.Committed.{Ended, alone, IsNew, WasThere, WereThere, new_or_old, next_or_both, still_linked, last_now, now_listed}
use Rattle.ground_model.proofs.HeldWrites.{version_of, past_end, not_kept}
use Rattle.ground_model.proofs.Known.{known_more}
use Rattle.ground_model.proofs.LineSteps.{linking_stays}
use Rattle.ground_model.proofs.MadeOf.{made_of_stays, rewritten_top}
use Rattle.ground_model.proofs.Turning.{same_laid}

same_or_not : (m n : ℕ) → (m ≡ n) ⊎ (m ≢ n)
same_or_not m n = grind arith

-- ---- pages

-- a block that holds a version page shows its page
pub version_page : (c : Content) (n : ℕ) (page : VersionValue) → version_in_block c n ≡ Some page → pages_of c n ≡ Some page.page
version_page c n page is = (let b = bytes_of (c n) page is in (reads_version c n b.bytes page b.holds b.reads).page.is)

-- writing a version page with another commit reference leaves the page that every block shows
pub rewrites_pages : (c d : Content) (n : ℕ) (change : VersionValue → VersionValue) → ((v : VersionValue) → (change v).page ≡ v.page) → Rewrites c d n change
    → (k : ℕ) → pages_of d k ≡ pages_of c k
rewrites_pages c d n change same r k = elim (same_or_not k n) [
  | inl at ↦ ap (pages_of d) at ∙ version_page d n (change r.page) r.is ∙ ap Some (same r.page) ∙ sym (version_page c n r.page r.was) ∙ ap (pages_of c) (sym at)
  | inr ne ↦ ap (option_and_then page_of_block) (sym (r.others k ne))
]

ok_is : (x y : State) → (let a : Result State Refused = Ok x in a) ≡ Ok y → x ≡ y
ok_is x y h = cc

-- ---- what the turn made

module _ (k : ℕ) (old new : Scene) (shared : IsShared old) (l : IsLinkSet k old new) (noted : IsNoted k old.standing new.standing l.next.object l.next.version)
    (latest : IsLatest old l.next.object l.next.version) (walked : IsMadeOf old.content noted.news l.next.base.block l.next.version.block) where
  next : NextVersion old.content old.store old.places
  next = l.next

  lies : LiesIn new.content old.most (record old.store { files = l.next.linked.files }) l.next.after
  lies = (committing_together old.content new.content old.most old.store old.places shared.laid l.next l.rewrites).0

  laid_there : laid new.content old.most [] ≡ Ok (new.store, new.places)
  laid_there = subst (λ m. laid new.content m [] ≡ Ok (new.store, new.places)) l.most l.laid

  both_laid : ((record old.store { files = l.next.linked.files }) ≡ new.store) × (lies.order ≡ new.places)
  both_laid = same_laid (laid new.content old.most []) _ new.store lies.order new.places lies.laid laid_there

  ends : Ended (changed_at (file_committed l.next.block l.next.version) l.next.object old.store.files) l.next.own l.next.linked l.next.after
  ends = alone old.content old.store old.places l.next l.none

  pub store_is : new.store ≡ (record old.store { files = changed_at (file_committed l.next.block l.next.version) l.next.object old.store.files })
  store_is = sym both_laid.0 ∙ ap (λ (fs : List LaidFile). (let s : LaidStore = record old.store { files = fs } in s)) ends.files_are

  pub place_is : (n : ℕ) → IsPlace new.places n ↔ (IsPlace old.places n ⊎ IsHeldBy old k n)
  place_is n =
      let same : list_any (nat_eq n) new.places ≡ list_any (nat_eq n) l.next.after = ap (list_any (nat_eq n)) (sym both_laid.1) ∙ lies.same n in
      (λ is. (l.taken n).0 (sym same ∙ is), λ is. same ∙ (l.taken n).1 is)

  pub state_is : state_in new.store ≡ new.standing.state
  state_is =
      ok_is _ _
      (sym (ap state_of laid_there) ∙ committing_appends old.content new.content old.most old.store old.places shared.laid l.next l.none l.rewrites)
      ∙ ap (with_version l.next.object (version_in l.next.version)) shared.state ∙ sym noted.state

  blocks_is : new.store.root.blocks ≡ old.store.root.blocks
  blocks_is = ap (λ (s : LaidStore). s.root.blocks) store_is

  -- ---- the map

  kept_at : (n : ℕ) → state_at new.states n ≡ cond (is_held k (state_at old.states n)) Kept (state_at old.states n)
  kept_at n = l.kept.states n

  mine : (s : BlockState) → is_held k s ≡ true → s ≡ Held k
  mine Free e = absurd (true≢false (sym e))
  mine (Held by) e = ap Held (eqb-true by k e)
  mine Kept e = absurd (true≢false (sym e))

  self : is_held k (Held k) ≡ true
  self = grind arith

  pub kept_where : (n : ℕ) → (state_at new.states n ≡ Kept) ↔ ((state_at old.states n ≡ Kept) ⊎ IsHeldBy old k n)
  kept_where n = (λ is. by (is_held k (state_at old.states n)) refl is, back)
    where
      by : (b : Bool) → is_held k (state_at old.states n) ≡ b → state_at new.states n ≡ Kept → (state_at old.states n ≡ Kept) ⊎ IsHeldBy old k n
      by true e is = inr (mine (state_at old.states n) e)
      by false e is = inl (sym (kept_at n ∙ ap (λ b. cond b Kept (state_at old.states n)) e) ∙ is)

      back : (state_at old.states n ≡ Kept) ⊎ IsHeldBy old k n → state_at new.states n ≡ Kept
      back (inl was) = kept_at n ∙ ap (λ s. cond (is_held k s) Kept s) was
      back (inr held) = kept_at n ∙ ap (λ s. cond (is_held k s) Kept s) held ∙ ap (λ b. cond b Kept (Held k)) self

  kept_forth : (n : ℕ) → (state_at old.states n ≡ Kept → (n ≡ 0) ⊎ IsPlace old.places n ⊎ IsPlace old.freed n) → (state_at old.states n ≡ Kept) ⊎ IsHeldBy old k n
      → (n ≡ 0) ⊎ IsPlace new.places n ⊎ IsPlace new.freed n
  kept_forth n was (inl is) = of (was is)
    where
      of : (n ≡ 0) ⊎ IsPlace old.places n ⊎ IsPlace old.freed n → (n ≡ 0) ⊎ IsPlace new.places n ⊎ IsPlace new.freed n
      of (inl e) = inl e
      of (inr (inl e)) = inr (inl ((place_is n).1 (inl e)))
      of (inr (inr e)) = inr (inr (subst (λ ns. IsPlace ns n) (sym l.freed) e))
  kept_forth n was (inr held) = inr (inl ((place_is n).1 (inr held)))

  kept_back : (n : ℕ) → ((n ≡ 0) ⊎ IsPlace old.places n ⊎ IsPlace old.freed n → state_at old.states n ≡ Kept) → (n ≡ 0) ⊎ IsPlace new.places n ⊎ IsPlace new.freed n
      → state_at new.states n ≡ Kept
  kept_back n was (inl e) = (kept_where n).1 (inl (was (inl e)))
  kept_back n was (inr (inl e)) = of ((place_is n).0 e)
    where
      of : IsPlace old.places n ⊎ IsHeldBy old k n → state_at new.states n ≡ Kept
      of (inl p) = (kept_where n).1 (inl (was (inr (inl p))))
      of (inr h) = (kept_where n).1 (inr h)
  kept_back n was (inr (inr e)) = (kept_where n).1 (inl (was (inr (inr (subst (λ ns. IsPlace ns n) l.freed e)))))

  freed_not_new : (n : ℕ) → IsFree old.store old.places n → IsPlace old.freed n → IsPlace old.places n ⊎ IsHeldBy old k n → ⊥
  freed_not_new n f is (inl p) = true≢false (sym p ∙ f.free)
  freed_not_new n f is (inr h) =
      not_kept old shared.map k n h ((shared.map.kept n (past_end old.states n k h)).1 (inr (inr is)))

  held_then : (j : ℕ) → (j ≡ k) ⊎ (j ≢ k) → held_count j new.states ≡ held_by new.standing j
  held_then j (inl e) =
      ap (λ (i : ℕ). held_count i new.states) e ∙ held_count-Replaces k Kept old.states new.states l.kept refl
      ∙ sym (mine_none k l.low noted.held) ∙ ap (held_by new.standing) (sym e)
    where
      mine_none : (i : ℕ) → 1 ≤ i → (client_of new.standing i).held ≡ 0 → held_by new.standing i ≡ 0
      mine_none zero low h = refl
      mine_none (suc i) low h = h
  held_then zero (inr ne) = held_count-Replaces-others k zero Kept old.states new.states l.kept refl ne ∙ shared.map.held zero
  held_then (suc j) (inr ne) =
      held_count-Replaces-others k (suc j) Kept old.states new.states l.kept refl ne ∙ shared.map.held (suc j)
      ∙ ap (λ (c : Client). c.held) (sym (noted.others (suc j) (omega arith) ne))

  map_is : IsMapped new
  map_is = record {
    size = l.kept.size ∙ shared.map.size ∙ sym blocks_is;
    kept = λ n low.
        let was = shared.map.kept n (subst (λ m. n < m) l.kept.size low) in
        (λ is. kept_forth n was.0 ((kept_where n).0 is), λ is. kept_back n was.1 is);
    held = λ j. held_then j (same_or_not j k);
    freed = λ n is.
        let f : IsFree old.store old.places n = shared.map.freed n (subst (λ ns. IsPlace ns n) l.freed is) in
        record {
          low = f.low;
          high = subst (λ m. n < m) (sym blocks_is) f.high;
          free = not_in new.places n (λ place. freed_not_new n f (subst (λ ns. IsPlace ns n) l.freed is) ((place_is n).0 place));
        };
    once = subst (λ ns. IsDistinct nat_eq ns) (sym l.freed) shared.map.once;
    frees = ap length l.freed ∙ shared.map.frees ∙ ap (λ (o : Option Upkeep). option_map_or (λ (up : Upkeep). up.frees) o 0) (sym noted.upkeep);
  }

  -- ---- versions

  version_now : (o : ℕ) (v : LaidVersion) (has : HasVersion new.store o v) → IsNew l.next.object o l.next.version v ⊎ WasThere old.store o has.place v
  version_now o v has =
      let F : LaidStore → Type 0 = λ s. (h : HasVersion s o v) → IsNew l.next.object o l.next.version v ⊎ WasThere old.store o h.place v in
      subst F (sym store_is) (new_or_old old.store l.next.object l.next.block l.next.version l.next.file l.next.base l.next.listed l.next.last o v) has

  -- an update that was known, or the new one
  known : (i : ℕ) (m : Made) → slice_get new.standing.made i ≡ Some m → (m ≡ noted.news) ⊎ (slice_get old.standing.made i ≡ Some m)
  known i m at = by (same_or_not i (length old.standing.made))
    where
      here : slice_get (old.standing.made ++ noted.news ∷ []) i ≡ Some m
      here = ap (λ ms. slice_get ms i) (sym noted.made) ∙ at

      by : (i ≡ length old.standing.made) ⊎ (i ≢ length old.standing.made) → (m ≡ noted.news) ⊎ (slice_get old.standing.made i ≡ Some m)
      by (inl e) = inl (some_is (sym here ∙ ap (slice_get (old.standing.made ++ noted.news ∷ [])) e ∙ get_past old.standing.made noted.news))
      by (inr ne) = inr (get_more old.standing.made noted.news i m here ne)

  as_made : AreAsMade new
  as_made i m v at has serial late = by (known i m at) (version_now m.object v has)
    where
      by : (m ≡ noted.news) ⊎ (slice_get old.standing.made i ≡ Some m) → IsNew l.next.object m.object l.next.version v ⊎ WasThere old.store m.object has.place v → IsAsMade m v
      by (inl e) (inl n) =
          let F : Made → LaidVersion → Type 0 = λ x y. IsAsMade x y in
          subst (λ x. F x v) (sym e) (subst (λ y. F noted.news y) (sym n.is) noted.as_made)
      by (inl e) (inr w) = absurd (let
          object : m.object ≡ suc l.next.object = ap (λ (x : Made). x.object) e ∙ noted.of_object in
          let below : w.was.serial < l.next.version.serial = latest w.was (subst (λ o. HasVersion old.store o w.was) object w.has) in
          let one : m.serial ≡ l.next.version.serial = ap (λ (x : Made). x.serial) e ∙ noted.serial in
          let two = w.serial in
          omega (arith, below, one, two, serial))
      by (inr was) (inl n) = absurd (let
          below : m.serial < l.next.version.serial = noted.late m (from_place old.standing.made m i was) n.of_object in
          let one : v.serial ≡ l.next.version.serial = ap (λ (x : LaidVersion). x.serial) n.is in
          omega (arith, below, one, serial))
      by (inr was) (inr w) =
          let old_one : IsAsMade m w.was = shared.made i m w.was was w.has (sym w.serial ∙ serial) (subst (λ p. 1 ≤ p) (sym w.place_is) late) in
          record {
            tree = ap (λ (ns : List Node). (version_in (let x : LaidVersion = record v { nodes = ns } in x)).tree) w.nodes ∙ old_one.tree;
            marks = λ path node here own. old_one.marks path node (ap (page_in path) (sym w.nodes) ∙ here) own;
          }

  -- ---- links

  linked_on : (o : ℕ) → IsLinking old.standing o → IsLinking new.standing o
  linked_on o x = linking_stays k old.standing new.standing noted.others o x (noted.links o x)

  abbrev files_now : List LaidFile
  files_now = changed_at (file_committed l.next.block l.next.version) l.next.object old.store.files

  -- another object's file is as it was, and the one has the new version last
  file_now : (o : ℕ) (file : LaidFile) → slice_get new.store.files o ≡ Some file
      → ((o ≡ l.next.object) × (file ≡ file_committed l.next.block l.next.version l.next.file)) ⊎ ((o ≢ l.next.object) × (slice_get old.store.files o ≡ Some file))
  file_now o file listed = by (same_or_not o l.next.object)
    where
      there : slice_get files_now o ≡ Some file
      there = ap (λ (s : LaidStore). slice_get s.files o) (sym store_is) ∙ listed

      by : (o ≡ l.next.object) ⊎ (o ≢ l.next.object) → ((o ≡ l.next.object) × (file ≡ file_committed l.next.block l.next.version l.next.file)) ⊎ ((o ≢ l.next.object) × (slice_get old.store.files o ≡ Some file))
      by (inl e) = inl (e, some_is (sym there ∙ ap (slice_get files_now) e ∙ now_listed old.store l.next.object l.next.block l.next.version l.next.file l.next.base l.next.listed l.next.last))
      by (inr ne) = inr (ne, sym (changed_other (file_committed l.next.block l.next.version) l.next.object o old.store.files ne) ∙ there)

  linked_before : IsLinked l.next.file
  linked_before = elim (shared.links.links l.next.object l.next.file l.next.listed) [ inl set ↦ set | inr x ↦ absurd (noted.unlinked x) ]

  old_top : (v : LaidVersion) (top : IsTop new.store v) → (was : IsTop old.store v) × (was.object ≡ top.object)
  old_top v top = by (file_now top.object top.file top.listed)
    where
      by : ((top.object ≡ l.next.object) × (top.file ≡ file_committed l.next.block l.next.version l.next.file)) ⊎ ((top.object ≢ l.next.object) × (slice_get old.store.files top.object ≡ Some top.file))
          → (was : IsTop old.store v) × (was.object ≡ top.object)
      by (inl (e, is)) = absurd (let
          newest : v ≡ l.next.version =
          some_is (sym top.last ∙ ap (λ (f : LaidFile). last_laid f.versions) is ∙ last_now old.store l.next.object l.next.block l.next.version l.next.file l.next.base l.next.listed l.next.last) in
          true≢false (sym l.none ∙ ap names_none (sym newest) ∙ top.names))
      by (inr (ne, listed)) = (record { object = top.object; file = top.file; listed = listed; last = top.last; names = top.names }, refl)

  links_are : AreLinksOf new.store new.standing
  links_are = record {
    links = λ o file listed. of o file (file_now o file listed);
    tops = λ v top. (let was = old_top v top in subst (λ o. IsLinking new.standing (suc o)) was.1 (linked_on (suc was.0.object) (shared.links.tops v was.0)));
    members = λ v top i member at. linked_on member.object (shared.links.members v (old_top v top).0 i member at);
  }
    where
      of : (o : ℕ) (file : LaidFile) → ((o ≡ l.next.object) × (file ≡ file_committed l.next.block l.next.version l.next.file)) ⊎ ((o ≢ l.next.object) × (slice_get old.store.files o ≡ Some file))
          → IsLinked file ⊎ IsLinking new.standing (suc o)
      of o file (inl (e, is)) =
          let F : LaidFile → Type 0 = λ f. IsLinked f in
          inl (subst F (sym is) (still_linked old.store l.next.object l.next.block l.next.version l.next.file l.next.base l.next.listed l.next.last linked_before))
      of o file (inr (ne, listed)) = elim (shared.links.links o file listed) [ inl set ↦ inl set | inr x ↦ inr (linked_on (suc o) x) ]

  -- ---- walks

  pages_same : (n : ℕ) → pages_of new.content n ≡ pages_of old.content n
  pages_same = rewrites_pages old.content new.content l.next.base.block (with_commit l.next.block) (λ x. refl) l.rewrites

  made_still : (m : Made) (base root : ℕ) → IsMadeOf old.content m base root → IsMadeOf new.content m base root
  made_still m base root h =
      made_of_stays old.content new.content m base root (λ p n at. pages_same n) (λ p n at. pages_same n)
      (rewritten_top old.content new.content l.next.base.block (with_commit l.next.block) (λ v. refl) (λ v. refl) l.rewrites root) h

  made_of_all : AreMadeOf new
  made_of_all i place m file before version at low listed first second serial = by (file_now (m.object - 1) file listed) (known i m at)
    where
      here : m.object - 1 ≡ l.next.object → (m ≡ noted.news) ⊎ (slice_get old.standing.made i ≡ Some m)
          → ((version ≡ l.next.version) × (before.block ≡ l.next.base.block)) ⊎ WereThere l.next.file place before version → IsMadeOf new.content m before.block version.block
      here e (inl news) (inl (v, b)) =
          subst (λ x. IsMadeOf new.content x before.block version.block) (sym news)
          (subst (λ n. IsMadeOf new.content noted.news n version.block) (sym b)
          (subst (λ n. IsMadeOf new.content noted.news l.next.base.block n) (ap (λ (x : LaidVersion). x.block) (sym v)) (made_still noted.news l.next.base.block l.next.version.block walked)))
      here e (inl news) (inr w) = absurd (let
          below : w.second.serial < l.next.version.serial =
          latest w.second (record {
            file = l.next.file;
            place = suc place;
            counts = omega arith;
            listed = (let same : suc l.next.object - 1 ≡ l.next.object = omega arith in ap (slice_get old.store.files) same ∙ l.next.listed);
            kept = w.at_second;
          }) in
          let one : m.serial ≡ l.next.version.serial = ap (λ (x : Made). x.serial) news ∙ noted.serial in
          let two = w.serial in
          omega (arith, below, one, two, serial))
      here e (inr was) (inl (v, b)) = absurd (let
          below : m.serial < l.next.version.serial = noted.late m (from_place old.standing.made m i was) (omega (arith, e, low)) in
          let one : version.serial ≡ l.next.version.serial = ap (λ (x : LaidVersion). x.serial) v in
          omega (arith, below, one, serial))
      here e (inr was) (inr w) =
          let old_one : IsMadeOf old.content m w.first.block w.second.block =
          shared.made_of i place m l.next.file w.first w.second was low (ap (slice_get old.store.files) e ∙ l.next.listed) w.at_first w.at_second (sym w.serial ∙ serial) in
          subst (λ n. IsMadeOf new.content m n version.block) (sym w.first_block) (subst (λ n. IsMadeOf new.content m w.first.block n) (sym w.second_block) (made_still m w.first.block w.second.block old_one))

      by : ((m.object - 1 ≡ l.next.object) × (file ≡ file_committed l.next.block l.next.version l.next.file)) ⊎ ((m.object - 1 ≢ l.next.object) × (slice_get old.store.files (m.object - 1) ≡ Some file))
          → (m ≡ noted.news) ⊎ (slice_get old.standing.made i ≡ Some m) → IsMadeOf new.content m before.block version.block
      by (inl (e, is)) which =
          here e which (next_or_both old.store l.next.object l.next.block l.next.version l.next.file l.next.base l.next.listed l.next.last place before version
          (ap (λ (f : LaidFile). slice_get f.versions place) (sym is) ∙ first) (ap (λ (f : LaidFile). slice_get f.versions (suc place)) (sym is) ∙ second))
      by (inr (ne, there)) (inl news) = absurd (let object : m.object ≡ suc l.next.object = ap (λ (x : Made). x.object) news ∙ noted.of_object in ne (omega (arith, object)))
      by (inr (ne, there)) (inr was) = made_still m before.block version.block (shared.made_of i place m file before version was low there first second serial)

  -- ---- the whole

  pub link_shared : IsShared new
  link_shared = record {
    some = subst (λ m. 0 < m) (sym blocks_is) shared.some;
    laid = l.laid;
    state = state_is;
    map = map_is;
    made = as_made;
    made_of = made_of_all;
    links = links_are;
  }

  pub link_versions : KeepsVersions old new
  link_versions o v has =
      let there : IsThere new.store (o - 1) has.place v =
      (commits_keep_versions old.content new.content old.most old.store old.places shared.laid l.next l.rewrites new.store new.places laid_there v (version_of old.store o v has)).there in
      record {
        again = there.again;
        is = record { file = there.file; place = has.place; counts = has.counts; listed = there.listed; kept = there.kept };
        serial = there.serial;
        block = there.block;
        tree = there.tree;
        pages = λ p n at. rewrites_pages old.content new.content l.next.base.block (with_commit l.next.block) (λ x. refl) l.rewrites n;
      }

  pub link_leaves : LeavesOthers k old new
  link_leaves j low ne = record {
    client = noted.others j low ne;
    clients = noted.clients;
    upkeep = λ up own. (λ is. noted.upkeep ∙ is, λ is. sym noted.upkeep ∙ is);
    held = λ n is. (held_on n is, sym (l.rewrites.others n (not_base n is)));
    versions = λ w v relied. link_versions w.object v relied.is;
    made = λ w v relied m is object serial. made_before w v relied.is m is object serial;
    known = λ w on. known_more w.object old.standing.made (noted.news ∷ []) new.standing.made noted.made;
  }
    where
      held_on : (n : ℕ) → IsHeldBy old j n → IsHeldBy new j n
      held_on n is =
          kept_at n ∙ ap (λ s. cond (is_held k s) Kept s) is ∙ ap (λ b. cond b Kept (Held j)) (ne_eqb j k ne)

      base_is_place : IsPlace old.places l.next.base.block
      base_is_place =
          let base : IsVersionOf old.store l.next.base =
          record { object = l.next.object; file = l.next.file; place = length l.next.file.versions - 1; listed = l.next.listed; kept = l.next.last } in
          pages_are_places old.content old.most old.store old.places shared.laid l.next.base base [] l.next.base.block refl

      not_base : (n : ℕ) → IsHeldBy old j n → n ≢ l.next.base.block
      not_base n is e =
          not_kept old shared.map j n is ((shared.map.kept n (past_end old.states n j is)).1 (inr (inl (subst (λ m. IsPlace old.places m) (sym e) base_is_place))))

      made_before : (w : Work) (v : LaidVersion) → HasVersion old.store w.object v → (m : Made) → Contains new.standing.made m → m.object ≡ w.object → m.serial ≤ v.serial → Contains old.standing.made m
      made_before w v has m is object serial = by (known is.0 m (at_place new.standing.made m is))
        where
          by : (m ≡ noted.news) ⊎ (slice_get old.standing.made is.0 ≡ Some m) → Contains old.standing.made m
          by (inl e) = absurd (let
              same : w.object ≡ suc l.next.object = sym object ∙ ap (λ (x : Made). x.object) e ∙ noted.of_object in
              let below : v.serial < l.next.version.serial = latest v (subst (λ o. HasVersion old.store o v) same has) in
              let one : m.serial ≡ l.next.version.serial = ap (λ (x : Made). x.serial) e ∙ noted.serial in
              omega (arith, below, one, serial))
          by (inr at) = from_place old.standing.made m is.0 at
