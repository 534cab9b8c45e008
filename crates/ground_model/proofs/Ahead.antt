-- The version ahead of a merged draft, and a walk over it: that it is the only one, what the walk ends in, and that both stay.
use Rattle.std.proofs.Common.{◌≡◌, ℕ, ◌+◌, ◌<◌, ◌≤◌, List, [], ◌∷◌, Option, Some, Contains, option_map, sym, ap, ◌∙◌, subst, arith, slice_get, Bool, true, false, not, ◌||◌, ◌==◌, true≢false, length}
use Rattle.std.specs.FinSet as set
use Rattle.std.specs.List.{list_any}
use Rattle.std.specs.Option.{option_map_or}
use Rattle.std.proofs.lemmas.Option.{slice_get-map}
use Rattle.draft_model.specs.Views.{View}
use Rattle.joint_walk.specs.Calls.{IsRead, first_of}
use Rattle.joint_walk.specs.Endings.{EndsBy}
use Rattle.joint_walk.specs.Walks.{Pending, WalkValue}
use Rattle.page_codec.specs.Values.{PageValue}
use Rattle.page_places.specs.Places.{Store}
use Rattle.service_model.specs.Legal.{IsLater, IsUnreadOf}
use Rattle.service_model.specs.Sound.{IsOn, IsSound}
use Rattle.service_model.specs.Standing.{Made, Scripts, Work, is_written, serial_of}
use Rattle.service_model.proofs.Members.{all_in, at_place}
use Rattle.service_model.proofs.Versions.{IsLiveAt, live_at, serial_at}
use Rattle.store_model.specs.Found.{state_in, state_of, version_in}
use Rattle.store_model.specs.Laid.{LaidFile, LaidVersion}
use Rattle.store_model.specs.Laws.{pages_of}
use Rattle.store_model.proofs.Edits.{some_is}
use Rattle.store_model.proofs.FoundStates.{found_is_state}
use Rattle.tree_model.specs.Accesses.{IsClash, Place, all_writes, place_cmp, reads_of, visible_of}
use Rattle.tree_model.specs.declared.step.Step.{Step}
use Rattle.tree_model.specs.States.{File, IsState, State}
use Rattle.tree_model.specs.Trees.{Tree}
use Rattle.ground_model.specs.Ahead.{AheadIn, AheadOf, BaseIsLeft, BaseStays, IsWalking, MergedStays, OneBase, WalkBegins, WalkClashes, WalkFeeds, WalkIsLeft, WalkMerges, WalkSettles, WalkStaysOwn, WritesHaveSteps}
use Rattle.ground_model.specs.Leaves.{IsThereAgain}
use Rattle.ground_model.specs.Names.{BaseIsLow}
use Rattle.ground_model.specs.Own.{HasMerged}
use Rattle.ground_model.specs.Scenes.{Scene, HasVersion, IsShared}
use Rattle.ground_model.specs.Walking.{IsAhead}
use Rattle.ground_model.proofs.Again.{base_again, merged_again, pages_again}
use Rattle.ground_model.proofs.Frames.{relied}
use Rattle.ground_model.proofs.Latest.{entry_is, serial_low}
use Rattle.ground_model.proofs.Laying.{stated}
use Rattle.ground_model.proofs.Walking.{walk_carries, walk_starts, walk_stays, walks_may_begin}

-- ---- one version of a serial

pub scene_state : (scene : Scene) → IsShared scene → IsState (state_in scene.store)
scene_state scene shared = found_is_state scene.content scene.most (state_in scene.store) (ap state_of shared.laid)

module _ (scene : Scene) (shared : IsShared scene) (object : ℕ) (v u : LaidVersion) (one : HasVersion scene.store object v) (two : HasVersion scene.store object u) where
  live : IsLiveAt (state_in scene.store) object
  live = live_at (state_in scene.store) object (version_in v) (scene_state scene shared) (stated scene.store object v one)

  in_state : (x : LaidVersion) (has : HasVersion scene.store object x) → slice_get live.file.versions has.place ≡ Some (version_in x)
  in_state x has =
      ap (λ (f : File). slice_get f.versions has.place) (some_is (sym live.is ∙ entry_is scene.store object x has))
      ∙ slice_get-map version_in has.file.versions has.place ∙ ap (option_map version_in) has.kept

  pub one_version : v.serial ≡ u.serial → v ≡ u
  one_version same =
      let first = serial_at (state_in scene.store) object live one.place (version_in v) (in_state v one) in
      let second = serial_at (state_in scene.store) object live two.place (version_in u) (in_state u two) in
      let place : one.place ≡ two.place = omega (arith, first, second, same) in
      let file : one.file ≡ two.file = some_is (sym one.listed ∙ two.listed) in
      some_is (sym one.kept ∙ ap (slice_get one.file.versions) place ∙ ap (λ (f : LaidFile). slice_get f.versions two.place) file ∙ two.kept)

pub one_base : OneBase
one_base scene object serial one two a b shared x y =
    let same : x.version ≡ y.version = one_version scene shared object x.version y.version x.is y.is (x.serial_is ∙ sym y.serial_is) in (
      sym x.block_is ∙ ap (λ (v : LaidVersion). v.block) same ∙ y.block_is,
      sym x.tree_is ∙ ap (λ (v : LaidVersion). (version_in v).tree) same ∙ y.tree_is,
    )

-- no base is later than the last version
pub base_low : BaseIsLow
base_low scene object serial root tree shared b =
    let low : b.version.serial ≤ serial_of (state_in scene.store) object = serial_low scene.store object b.version b.is (scene_state scene shared) in
    subst (λ (s : State). serial ≤ serial_of s object) shared.state (subst (λ n. n ≤ serial_of (state_in scene.store) object) b.serial_is low)

-- ---- the version ahead

pub ahead_in : AheadIn
ahead_in scripts scene k w upto root next tree after d shared sound on h b =
    let low = base_low scene w.object (upto + 1) next after shared b in
    let x = walks_may_begin scripts scene k w upto root tree d shared sound on h (omega (arith, low)) in
    let same = one_base scene w.object (upto + 1) x.0 next _ after shared x.3.base b in
    (x.1, x.2, subst (λ n. IsAhead scene w upto root tree n x.1 x.2) same.0 x.3)

pub ahead_of : AheadOf
ahead_of scripts scene k w upto root next tree after d m shared sound on h b listed of_object serial =
    let x = ahead_in scripts scene k w upto root next tree after d shared sound on h b in
    (x.1, subst (λ n. IsAhead scene w upto root tree next n x.1) (sym (x.2.only m listed of_object serial)) x.2)

-- ---- the walk

some_steps : (w : Work) → is_written w ≡ true → 0 < length w.steps
some_steps w written = by w.steps written
  where
    by : (steps : List Step) → not (length (all_writes w.base steps) == 0) ≡ true → 0 < length steps
    by [] e = absurd (true≢false (sym e))
    by (step ∷ steps) e = omega arith

pub writes_have_steps : WritesHaveSteps
writes_have_steps u w works writes = some_steps w (one (is_written w) (sym (ap (list_any is_written) works) ∙ writes))
  where
    one : (b : Bool) → (b || false) ≡ true → b ≡ true
    one true e = e
    one false e = e

pub walk_begins : WalkBegins
walk_begins scene w upto root tree before d next m page walk h a some starts = record {
  merged = h;
  page = page;
  ahead = a;
  some = omega arith;
  way = walk_starts scene w upto root tree before d next m page walk h a some starts;
}

pub walk_settles : WalkSettles
walk_settles scene w upto root tree before d e next m fed walk more h settles = record {
  merged = h.merged;
  page = h.page;
  ahead = h.ahead;
  some = h.some;
  way = settles (pages_of scene.content) root next tree w.steps m.steps fed h.way;
}

-- the first page that is to be read is the one in this block
is_read : (store : Store) (page : PageValue) (pending : List Pending) (path : List ℕ) (block : ℕ)
    → option_map {U = List ℕ × ℕ} (λ (x : Pending). (x.path, x.block)) (first_of pending) ≡ Some (path, block) → store block ≡ Some page → IsRead store page pending
is_read store page [] path block is here = absurd cc
is_read store page (x ∷ pending) path block is here =
    ap store (ap (λ (o : Option (List ℕ × ℕ)). option_map_or (λ (y : List ℕ × ℕ). y.1) o 0) is) ∙ here

pub walk_feeds : WalkFeeds
walk_feeds scene w upto root tree before d e next m fed walk more path block page h is here feeds = record {
  merged = h.merged;
  page = h.page;
  ahead = h.ahead;
  some = omega arith;
  way = feeds (pages_of scene.content) root next tree w.steps m.steps fed h.way (is_read (pages_of scene.content) page walk.pending path block is here);
}

-- ---- it ends

pub walk_merges : WalkMerges
walk_merges scripts scene w upto root tree before d next m fed walk shared sound h ends none =
    let end : EndsBy (pages_of scene.content) next tree w.steps m.steps fed d walk.clash = ends (pages_of scene.content) root next tree w.steps m.steps fed h.way in
    walk_carries scripts scene w upto root tree before d next m h.page fed shared sound h.merged h.ahead
    (subst (λ o. EndsBy (pages_of scene.content) next tree w.steps m.steps fed d o) none end)

pub walk_clashes : WalkClashes
walk_clashes scene w upto root tree before d next m fed walk path kind h ends some =
    let end : EndsBy (pages_of scene.content) next tree w.steps m.steps fed d walk.clash = ends (pages_of scene.content) root next tree w.steps m.steps fed h.way in
    let met = (subst (λ o. EndsBy (pages_of scene.content) next tree w.steps m.steps fed d o) some end).clash in
    let from = h.merged.from in
    let serial = h.ahead.serial in
    let F : set.FinSet place_cmp → Type 0 = λ r. IsClash r (visible_of m.before m.steps) (Some (path, kind)) in
    let G : Tree → Type 0 = λ t. IsClash (reads_of tree w.steps) (visible_of t m.steps) (Some (path, kind)) in
    let listed = h.ahead.listed in (
      (
        m,
        listed.0,
        at_place scene.standing.made m listed,
        (h.ahead.of_object, omega (arith, from, serial)),
        serial,
        subst F (ap (λ (xs : List Place). set.from_list {R = place_cmp} xs) h.merged.alike.reads) (subst G (sym h.ahead.before) met),
      ),
      all_in (λ (n : Made). IsLater w n → n.serial < upto + 1 → IsUnreadOf w n) scene.standing.made
          (λ n is later low. h.merged.unread n is later (omega (arith, low))),
    )

-- ---- both stay

module _ (scripts : Scripts) (k : ℕ) (old new : Scene) (w : Work) (upto root : ℕ) (tree : Tree) (before d : View) (next : ℕ) (m : Made) (fed : ℕ) (walk : WalkValue)
    (h : IsWalking old w upto root tree before next m fed walk d)
    (below : IsThereAgain old new w.object h.merged.base.version) (above : IsThereAgain old new w.object h.ahead.base.version)
    (known : (n : Made) → Contains new.standing.made n → n.object ≡ w.object → n.serial ≤ upto + 1 → Contains old.standing.made n) where
  merged_then : HasMerged new w upto root tree before
  merged_then =
      merged_again old new w upto root tree before h.merged below
      (λ n is later low. h.merged.unread n (known n is later.0 (omega (arith, low))) later low)

  walking_again : IsShared new → IsSound scripts new.standing → IsOn new.standing k w → IsWalking new w upto root tree before next m fed walk d
  walking_again shared sound on =
      let b = base_again old new w.object (upto + 1) next _ h.ahead.base above in
      let x = ahead_in scripts new k w upto root next tree _ before shared sound on merged_then b in
      let serial = x.2.serial in
      let same : x.0 ≡ m = h.ahead.only x.0 (known x.0 x.2.listed x.2.of_object (omega (arith, serial))) x.2.of_object serial in
      record {
        merged = merged_then;
        page = x.1;
        ahead = subst (λ n. IsAhead new w upto root tree next n x.1) same x.2;
        some = h.some;
        way =
            walk_stays old.content new.content root next tree w.steps m.steps fed walk d
            (pages_again old new w.object upto root tree h.merged.base below) (pages_again old new w.object (upto + 1) next _ h.ahead.base above) h.way;
      }

pub base_is_left : BaseIsLeft
base_is_left k old new w serial root tree leaves on from b =
    base_again old new w.object serial root tree b (leaves.versions w b.version (relied k old new leaves w on serial root tree from b))

pub walk_is_left : WalkIsLeft
walk_is_left scripts k old new w upto root tree before d next m fed walk leaves shared sound on h =
    let from = h.merged.from in
    let last = h.ahead.base in
    let low = relied k old new leaves w on upto root tree from h.merged.base in
    let high = relied k old new leaves w on (upto + 1) next _ (omega (arith, from)) last in
    walking_again scripts k old new w upto root tree before d next m fed walk h (leaves.versions w h.merged.base.version low) (leaves.versions w last.version high)
    (λ n is of_object few. leaves.made w last.version high n is of_object (subst (λ x. n.serial ≤ x) (sym last.serial_is) few)) shared sound
    (record { update = on.update; number = on.number; is_open = ap (λ c. c.update) leaves.client ∙ on.is_open; listed = on.listed })

pub base_stays : BaseStays
base_stays old new object serial root tree keeps b = base_again old new object serial root tree b (keeps object b.version b.is)

pub merged_stays_own : MergedStays
merged_stays_own old new w upto root tree d keeps made h =
    merged_again old new w upto root tree d h (keeps w.object h.base.version h.base.is)
    (λ n is later low. h.unread n (subst (λ (ms : List Made). Contains ms n) made is) later low)

pub walk_stays_own : WalkStaysOwn
walk_stays_own scripts k old new w upto root tree before d next m fed walk keeps made shared sound on h =
    walking_again scripts k old new w upto root tree before d next m fed walk h
    (keeps w.object h.merged.base.version h.merged.base.is) (keeps w.object h.ahead.base.version h.ahead.base.is)
    (λ n is of_object few. subst (λ (ms : List Made). Contains ms n) made is) shared sound on
