-- A turn of a walk that reads the page which the walk needs next.
use Rattle.std.proofs.Common.{◌≡◌, inr, ℕ, ◌+◌, ◌<◌, ◌≤◌, List, length, Some, Result, Ok, Err, sym, ap, ◌∙◌, subst, arith}
use Rattle.block_map.specs.States.{held_count}
use Rattle.joint_walk.specs.Calls.{next_of, waiting_job}
use Rattle.joint_walk.specs.Walks.{WalkValue}
use Rattle.page_codec.specs.Causes.{page_of}
use Rattle.page_codec.specs.Values.{PageValue}
use Rattle.page_codec.specs.declared.why.Why.{Why}
use Rattle.pair_store.specs.declared.store.Blocks.{Ghosts}
use Rattle.script_text.specs.ScriptValue.{ScriptValue}
use Rattle.service_model.specs.Standing.{Scripts}
use Rattle.store_changes.specs.Writes.{Content}
use Rattle.store_model.specs.Laws.{pages_of}
use Rattle.store_model.proofs.Edits.{some_is}
use Rattle.tree_model.specs.States.{State}
use Rattle.ground_model.specs.Ahead.{IsWalking}
use Rattle.ground_model.specs.Bounds.{turns_to}
use Rattle.ground_model.specs.Scenes.{Scene, IsShared}
use Rattle.ground_model.specs.Shows.{ShowsPage}
use Rattle.ground_model.proofs.Ahead.{walk_feeds}
use Rattle.ground_model.proofs.Shows.{needed_shows}
use Rattle.session.specs.Calls.{IsIn, IsReady, TurnCall, waiting_in}
use Rattle.session.specs.Own.{IsWalkingBy, IsWalkingOn}
use Rattle.session.specs.Reads.{IsPageOf, ReadCall}
use Rattle.session.specs.Safe.{AreSafeDrafts, HasDraftIn, IsSafe, IsSafeStage, root_of, view_of}
use Rattle.session.specs.Values.{RepliesValue, one_more}
use Rattle.session.specs.Walks.{HasTaken}
use Rattle.session.specs.declared.common.Common.{Common}
use Rattle.session.specs.declared.course.Course.{Course}
use Rattle.session.specs.declared.stage.Stage.{Stage}
use Rattle.session.specs.declared.stage.Stage.TheVariants as stage
use Rattle.session.specs.declared.turned.Fault.{Fault}
use Rattle.session.specs.declared.turned.Turned.{Turned}
use Rattle.session.specs.declared.turned.Turned.TheVariants as turned
use Rattle.session.proofs.Drafting.{one_in}
use Rattle.session.proofs.BlockLaws.{BlockLaws}
use Rattle.session.proofs.Counting.{one_more_low}
use Rattle.session.proofs.NextVersions.{work_by}
use Rattle.session.proofs.WalkReads.{AreShown, Shown, failed_call, given_is, place_shown, went_call}
use Rattle.session.proofs.Walking.{KeepsCommit, committing_then, under_way_goes}

page_same : (r : Result PageValue Why) (x y : PageValue) → r ≡ Ok x → r ≡ Ok y → x ≡ y
page_same r x y e f = cc

module _ {D : Type 0} (b : Ghosts D) (script : ScriptValue) (c c' : Common D) (s : Course) (walk : WalkValue) (path : List ℕ) (block level : ℕ) (result : Result PageValue Fault)
    (laws : b.tells → BlockLaws b) (ready : IsReady b script c s) (read : ReadCall b (IsPageOf level) c c' block result) (next : next_of walk ≡ Some (path, block)) (level_is : level ≡ length path) where
  needed : (scene : Scene) (scripts : Scripts) → IsShared scene → IsWalkingOn scripts scene script s walk → ShowsPage scene path block
  needed scene scripts shared x =
      needed_shows scene x.work x.upto x.root x.tree x.before (view_of s) (root_of s) x.made x.fed walk path block shared x.walking next

  page_shown : b.tells → AreShown b (IsPageOf level) (IsWalkingBy walk) script c s block
  page_shown told opening scripts first scene is =
      let shows = needed scene scripts is.stands.stands.shared is.mine in
      place_shown b (IsPageOf level) (laws told) opening scripts first scene c block is.stands shows.lies.high shows.body shows.holds shows.page (shows.reads, shows.level ∙ sym level_is)

  pub page_failed : (e : Fault) → result ≡ Err e → TurnCall b (IsWalkingBy walk) script c c' s s (turned.Stopped e)
  page_failed = failed_call b (IsPageOf level) (IsWalkingBy walk) script c c' s block result laws ready read page_shown

  module _ (page : PageValue) (was : result ≡ Ok page) (s' : Course) (answer : Turned) (taken : HasTaken walk page s s' answer) (draft : HasDraftIn (b.size c.store) s) where
    -- what was read is the page that the block shows
    page_is : b.tells → (opening : State) (scripts : Scripts) (first : ℕ) (scene : Scene) → (is : IsIn b (IsWalkingBy walk) script c s opening scripts first scene)
        → pages_of scene.content block ≡ Some page
    page_is told opening scripts first scene is =
        let shows = needed scene scripts is.stands.stands.shared is.mine in
        let shown : Shown b (IsPageOf level) c block = page_shown told opening scripts first scene is in
        let gives = given_is b (IsPageOf level) (IsWalkingBy walk) script c c' s block result laws ready read page_shown page was told shown in
        let same : shown.bytes ≡ shows.body = some_is (sym shown.holds ∙ ap (λ (f : Content). f block) (sym is.stands.stands.content) ∙ shows.holds) in
        shows.shows ∙ ap Some (sym (page_same (page_of shown.bytes) page shows.page gives.0 (ap page_of same ∙ shows.reads)))

    course_is : KeepsCommit s s'
    course_is = record {
      client = ap (λ (x : Course). x.client) taken.only;
      replies = ap (λ (x : Course). x.replies) taken.only;
      rights = ap (λ (x : Course). x.rights) taken.only;
      held = ap (λ (x : Course). x.held) taken.only;
      one = taken.same.one;
      count = taken.same.count;
      object = taken.same.object;
    }

    turns_is : s'.turns ≡ one_more s.turns
    turns_is = ap (λ (x : Course). x.turns) taken.only

    stage_is : s'.stage ≡ stage.Walking taken.more
    stage_is = ap (λ (x : Course). x.stage) taken.only

    safe : IsSafe (b.size c.store) c.map script s'
    safe = record {
      lines = subst (λ (r : RepliesValue). length r.items ≤ length script.lines) (sym course_is.replies) ready.safe.lines;
      room = subst (λ (r : RepliesValue). length script.lines ≤ r.room) (sym course_is.replies) ready.safe.room;
      held = ap (λ k. held_count k c.map) course_is.client ∙ ready.safe.held ∙ sym course_is.held;
      drafts = subst (AreSafeDrafts (b.size c.store) s'.drafts) (sym taken.same.one) (one_in (b.size c.store) s'.drafts taken.same.picked (subst (λ n. n < b.size c.store) (sym taken.same.root) draft.base));
      stage = subst (IsSafeStage (length c.map) s') (sym stage_is) taken.same.one;
    }

    walks : b.tells → (opening : State) (scripts : Scripts) (first : ℕ) (scene : Scene) → (is : IsIn b (IsWalkingBy walk) script c s opening scripts first scene)
        → IsWalkingOn scripts scene script s' taken.more
    walks told opening scripts first scene is =
        let x : IsWalkingOn scripts scene script s walk = is.mine in
        record {
          update = x.update;
          work = x.work;
          committing = committing_then scripts scene script s s' x.update x.work course_is x.committing;
          upto = x.upto;
          root = x.root;
          tree = x.tree;
          before = x.before;
          made = x.made;
          fed = x.fed + 1;
          walking = subst (λ n. IsWalking scene x.work x.upto x.root x.tree x.before n x.made (x.fed + 1) taken.more (view_of s')) (sym taken.same.root)
              (walk_feeds scene x.work x.upto x.root x.tree x.before (view_of s) (view_of s') (root_of s) x.made x.fed walk taken.more path block page x.walking next
              (page_is told opening scripts first scene is) taken.feeds);
          serial = taken.same.serial ∙ x.serial;
          turns =
              let low = x.turns in
              let one = one_more_low s.turns in
              let is = turns_is in
              subst (λ h. s'.turns ≤ turns_to scene.standing.made h x.work x.upto + (1 + h) + (x.fed + 1)) (sym course_is.held) (omega (arith, low, one, is));
        }

    pub feeds_call : TurnCall b (IsWalkingBy walk) script c c' s s' answer
    feeds_call =
        went_call b (IsPageOf level) (IsWalkingBy walk) script c c' s block result laws ready read page_shown page was s' safe course_is.client course_is.replies course_is.held turns_is
        (λ told opening scripts first scene is.
        under_way_goes b (laws told) opening scripts first scene c c' script s' is.stands read.alone (read.read told)
        (inr (taken.more, stage_is, walks told opening scripts first scene is)))
        answer (work_by s' (waiting_job taken.more) answer taken.answer (λ job waits. subst (λ (x : Stage). waiting_in x ≡ Some job) (sym stage_is) waits))
