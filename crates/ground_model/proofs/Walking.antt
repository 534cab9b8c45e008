-- The walk of a client's draft over the next version: what it begins on, that it stays under way, and what it ends in.
use Rattle.std.proofs.Common.{◌≡◌, ℕ, suc, ◌+◌, ◌-◌, ◌<◌, ◌≤◌, List, [], ◌∷◌, length, get_or, Option, Some, None, Contains, option_map, refl, sym, ap, ◌∙◌, subst, arith, slice_get}
use Rattle.std.proofs.lemmas.List.{length-map}
use Rattle.std.proofs.lemmas.Option.{slice_get-map, slice_get-get_or}
use Rattle.draft_model.specs.Stands.{SameBase}
use Rattle.draft_model.specs.Views.{View}
use Rattle.draft_model.proofs.Keeping.{same_walk, stands_still}
use Rattle.joint_walk.specs.Later.{AreMarks, IsLater}
use Rattle.joint_walk.specs.Walks.{AllOf, IsJobAt, IsLast, IsWanted, Pair, Pending, StateOf, WalkValue}
use Rattle.page_codec.specs.Values.{VersionValue}
use Rattle.page_merge.specs.Jobs.{JobValue}
use Rattle.page_places.specs.Places.{Store}
use Rattle.service_model.specs.Sound.{IsKnown, IsSound}
use Rattle.service_model.specs.Standing.{Scripts, Work, serial_of, versions_of}
use Rattle.service_model.proofs.Members.{at_place}
use Rattle.service_model.proofs.Versions.{IsLiveAt, live_at, live_serial, serial_at}
use Rattle.store_model.specs.Found.{file_in, state_in, version_in}
use Rattle.store_model.specs.Laid.{LaidVersion}
use Rattle.store_model.specs.Laws.{pages_of}
use Rattle.store_model.specs.VersionPages.{HasItsPage}
use Rattle.store_model.proofs.Edits.{some_is}
use Rattle.store_model.proofs.FoundStates.{versions_have_pages}
use Rattle.tree_model.specs.Accesses.{Place}
use Rattle.tree_model.specs.declared.step.Step.{Step}
use Rattle.tree_model.specs.Merge.{ActsAlike}
use Rattle.tree_model.specs.States.{File, IsState, State}
use Rattle.tree_model.specs.Trees.{IsTree, Tree, tree_after}
use Rattle.tree_model.proofs.Law.{law}
use Rattle.ground_model.specs.Own.{IsBase}
use Rattle.ground_model.specs.Scenes.{Scene, HasVersion, IsMadeOf, IsShared}
use Rattle.ground_model.specs.Walking.{IsAhead, WalkCarries, WalksMayBegin, WalkStarts, WalkStays}
use Rattle.ground_model.proofs.Drafting.{merge_goes_on}
use Rattle.ground_model.proofs.Latest.{entry_is}
use Rattle.ground_model.proofs.Laying.{stated}
use Rattle.ground_model.proofs.Links.{version_page}
use Rattle.ground_model.proofs.MadeOf.{later_stays}
use Rattle.ground_model.proofs.PagesWhole.{pages_whole}

-- ---- the next version of a file

module _ (scripts : Scripts) (scene : Scene) (w : Work) (upto root : ℕ) (tree : Tree) (shared : IsShared scene) (sound : IsSound scripts scene.standing)
    (b : IsBase scene w.object upto root tree) where
  abbrev has : HasVersion scene.store w.object b.version
  has = b.is

  state_sound : IsState (state_in scene.store)
  state_sound = subst IsState (sym shared.state) sound.state

  live : IsLiveAt (state_in scene.store) w.object
  live = live_at (state_in scene.store) w.object (version_in b.version) state_sound (stated scene.store w.object b.version has)

  file_is : live.file ≡ file_in has.file
  file_is = some_is (sym live.is ∙ entry_is scene.store w.object b.version has)

  -- a version of the file, in the state
  in_state : (place : ℕ) (v : LaidVersion) → slice_get has.file.versions place ≡ Some v → slice_get live.file.versions place ≡ Some (version_in v)
  in_state place v at = ap (λ (f : File). slice_get f.versions place) file_is ∙ slice_get-map version_in has.file.versions place ∙ ap (option_map version_in) at

  is_tree : IsTree tree
  is_tree = subst IsTree b.tree_is (live.sound.trees has.place (version_in b.version) (in_state has.place b.version has.kept)).tree

  module _ (less : upto < serial_of scene.standing.state w.object) where
    short : suc has.place < length has.file.versions
    short =
        let one = serial_at (state_in scene.store) w.object live has.place (version_in b.version) (in_state has.place b.version has.kept) in
        let two = serial_at (state_in scene.store) w.object live (length live.file.versions - 1) live.last live.last_is in
        let three = live_serial (state_in scene.store) w.object live in
        let long : length live.file.versions ≡ length has.file.versions = ap (λ (f : File). length f.versions) file_is ∙ length-map has.file.versions version_in in
        let below : upto < serial_of (state_in scene.store) w.object = subst (λ (s : State). upto < serial_of s w.object) (sym shared.state) less in
        let serial = b.serial_is in
        omega (arith, one, two, three, long, below, serial)

    abbrev next : LaidVersion
    next = get_or has.file.versions (suc has.place) b.version

    next_at : slice_get has.file.versions (suc has.place) ≡ Some next
    next_at = slice_get-get_or has.file.versions (suc has.place) b.version short

    has_next : HasVersion scene.store w.object next
    has_next = record { file = has.file; place = suc has.place; counts = has.counts; listed = has.listed; kept = next_at }

    serial_next : next.serial ≡ upto + 1
    serial_next =
        let one = serial_at (state_in scene.store) w.object live has.place (version_in b.version) (in_state has.place b.version has.kept) in
        let two = serial_at (state_in scene.store) w.object live (suc has.place) (version_in next) (in_state (suc has.place) next next_at) in
        let serial = b.serial_is in
        omega (arith, one, two, serial)

    in_standing : (v : LaidVersion) → HasVersion scene.store w.object v → Contains (versions_of scene.standing.state w.object) (version_in v)
    in_standing v is = subst (λ (s : State). Contains (versions_of s w.object) (version_in v)) shared.state (stated scene.store w.object v is)

    its_page : HasItsPage scene.content (suc (w.object - 1)) next
    its_page = versions_have_pages scene.content scene.most scene.store scene.places shared.laid next (record { object = w.object - 1; file = has.file; place = suc has.place; listed = has.listed; kept = next_at })

    module _ (known : IsKnown scene.standing.state scene.standing.made w.object (version_in next)) where
      pub made_of : IsMadeOf scene.content known.made b.version.block next.block
      made_of =
          shared.made_of known.listed.0 has.place known.made has.file b.version next (at_place scene.standing.made known.made known.listed)
          (subst (λ n. 1 ≤ n) (sym known.of_object) has.counts) (ap (λ (o : ℕ). slice_get scene.store.files (o - 1)) known.of_object ∙ has.listed) has.kept next_at (sym known.serial)

      before_is : known.made.before ≡ tree
      before_is =
          sym (known.before (version_in b.version) (in_standing b.version has) (let serial = b.serial_is in let up = serial_next in omega (arith, serial, up)))
          ∙ b.tree_is

      pub ahead : IsAhead scene w upto root tree next.block known.made made_of.page
      ahead = record {
        base = record {
          version = next;
          is = has_next;
          serial_is = serial_next;
          block_is = refl;
          tree_is = known.tree ∙ ap (λ t. tree_after t known.made.steps) before_is;
        };
        listed = known.listed;
        of_object = known.of_object;
        serial = known.serial ∙ serial_next;
        before = before_is;
        only = λ n c of_object serial. known.only n c of_object (serial ∙ sym serial_next);
        held = made_of.held;
        shows = version_page scene.content next.block made_of.page made_of.held;
        page_serial = ap (λ (v : VersionValue). v.serial) (some_is (sym made_of.held ∙ its_page.held)) ∙ its_page.serial ∙ serial_next;
        page_base = made_of.base_is ∙ ap Some b.block_is;
        later =
            let at_block : IsLater (pages_of scene.content) b.version.block next.block tree known.made.steps =
            subst (λ t. IsLater (pages_of scene.content) b.version.block next.block t known.made.steps) before_is made_of.later in
            subst (λ n. IsLater (pages_of scene.content) n next.block tree known.made.steps) b.block_is at_block;
        marks = subst (λ t. AreMarks t known.made.steps [] made_of.page.root) before_is made_of.marks;
      }

pub walks_may_begin : WalksMayBegin
walks_may_begin scripts scene k w upto root tree d shared sound on h less =
    let serial = serial_next scripts scene w upto root tree shared sound h.base less in
    let from = h.from in
    let v : LaidVersion = next scripts scene w upto root tree shared sound h.base less in
    let known : IsKnown scene.standing.state scene.standing.made w.object (version_in v) =
    (sound.updates k on.update on.number on.is_open).later w on.listed (version_in v)
    (in_standing scripts scene w upto root tree shared sound h.base less v (has_next scripts scene w upto root tree shared sound h.base less)) (omega (arith, serial, from)) in
    (_, _, _, ahead scripts scene w upto root tree shared sound h.base less known)

pub walk_starts : WalkStarts
walk_starts scene w upto root tree d e block m page walk h a some starts =
    starts (pages_of scene.content) root tree w.steps m.steps h.stands some a.later a.marks a.shows

-- ---- it ends

pub walk_carries : WalkCarries
walk_carries scripts scene w upto root tree d e block m page fed shared sound h a c =
    let alike : ActsAlike tree (tree_after tree m.steps) w.steps = law tree w.steps m.steps (is_tree scripts scene w upto root tree shared sound h.base) c.none in
    merge_goes_on scene w upto root block tree d e m h
    (record {
      listed = a.listed;
      of_object = a.of_object;
      serial = a.serial;
      before = a.before;
      only = a.only;
      none = c.none;
      base = a.base;
      stands = c.stands;
      alike = record { replies = alike.replies; reads = alike.reads; writes = alike.writes; visible = alike.visible; fresh = alike.fresh };
    })

-- ---- it stays under way

module _ (old new : Store) (root : ℕ) (a : Tree) (mine other : List Step) (start d : View) (here : SameBase old new root) where
  job_stays : (p : List ℕ) (job : JobValue) → IsJobAt old root a mine other start p job → IsJobAt new root a mine other start p job
  job_stays p job j = record {
    block = j.block;
    at = same_walk old new root here p ∙ j.at;
    theirs = here p j.block j.at ∙ j.theirs;
    page = j.page;
    sixteen = j.sixteen;
    read = j.read;
    written = j.written;
    searched = j.searched;
    modified = j.modified;
    changed = j.changed;
    kept = j.kept;
    short = j.short;
    leaf = j.leaf;
  }

  wanted_stay : (fed : List (List ℕ)) (xs : List Pending) → AllOf (IsWanted old root a mine other fed) xs → AllOf (IsWanted new root a mine other fed) xs
  wanted_stay fed [] all = tt
  wanted_stay fed (x ∷ xs) all = (
    record { shared = all.0.shared; at = same_walk old new root here x.path ∙ all.0.at; marks = all.0.marks; ahead = all.0.ahead },
    wanted_stay fed xs all.1,
  )

  last_stays : (fed : List (List ℕ)) (o : Option Pair) → IsLast old root a mine other start fed o → IsLast new root a mine other start fed o
  last_stays fed None h = tt
  last_stays fed (Some x) h = (h.0, h.1, job_stays x.path x.job h.2)

  state_stays : (fed : List (List ℕ)) (walk : WalkValue) (o : Option Place) → StateOf old root a mine other start fed walk d o → StateOf new root a mine other start fed walk d o
  state_stays fed walk (Some x) h = h
  state_stays fed walk None h = record {
    has_fed = record {
      rising = h.has_fed.rising;
      shared = h.has_fed.shared;
      apart = h.has_fed.apart;
      wanted = wanted_stay fed walk.pending h.has_fed.wanted;
      cover = h.has_fed.cover;
    };
    last = last_stays fed walk.pair h.last;
    settled = λ p one waits. record {
      unmet = (h.settled p one waits).unmet;
      merged = λ c at live. (let j = (h.settled p one waits).merged c at live in (j.0, job_stays p j.0 j.1, j.2));
    };
    rest = h.rest;
  }

pub walk_stays : WalkStays
walk_stays old new base root a mine other n walk d below here h = record {
  start = h.start;
  fed = h.fed;
  setting = record {
    stands = stands_still (pages_of old) (pages_of new) base a mine h.start h.setting.stands below;
    later = later_stays (pages_of old) (pages_of new) base root a other below here (pages_whole new) h.setting.later;
    some = h.setting.some;
    accessed = h.setting.accessed;
  };
  count = h.count;
  state = state_stays (pages_of old) (pages_of new) root a mine other h.start d here h.fed walk walk.clash h.state;
}
