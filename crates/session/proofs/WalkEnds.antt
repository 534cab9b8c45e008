-- The parts of a walk's turn that make no operation: its pages are merged, and it ends.
use Rattle.std.proofs.Common.{◌≡◌, ℕ, ◌+◌, ◌-◌, ◌*◌, ◌<◌, ◌≤◌, List, length, Some, None, sym, ap, ◌∙◌, subst, arith}
use Rattle.afs_base.specs.declared.kind.Kind.{Kind}
use Rattle.block_map.specs.States.{held_count}
use Rattle.draft_model.specs.Views.{View}
use Rattle.joint_walk.specs.Calls.{Ends}
use Rattle.joint_walk.specs.Walks.{WalkValue}
use Rattle.pair_store.specs.declared.store.Blocks.{Ghosts}
use Rattle.script_text.specs.ScriptValue.{ScriptValue}
use Rattle.service_model.specs.Legal.{IsFirstClash}
use Rattle.service_model.specs.Standing.{Scripts}
use Rattle.tree_model.specs.States.{State}
use Rattle.tree_model.specs.Trees.{tree_after}
use Rattle.ground_model.specs.Ahead.{IsWalking}
use Rattle.ground_model.specs.Bounds.{turns_to}
use Rattle.ground_model.specs.Own.{HasMerged}
use Rattle.ground_model.specs.Scenes.{Scene}
use Rattle.ground_model.proofs.Ahead.{walk_clashes, walk_merges, walk_settles}
use Rattle.ground_model.proofs.Bounded.{turns_grow, walk_is_within}
use Rattle.session.specs.Calls.{IsIn, IsReady, MoveCall}
use Rattle.session.specs.Own.{IsClashing, IsMerged, IsWalkingBy, IsWalkingOn}
use Rattle.session.specs.Safe.{AreSafeDrafts, IsSafe, IsSafeStage, drafts_of, noted_for, root_of, view_of}
use Rattle.session.specs.Shared.{entries_of, room_of}
use Rattle.session.specs.Values.{RepliesValue}
use Rattle.session.specs.Walks.{HasSettled, IsSameDraft}
use Rattle.session.specs.declared.common.Common.{Common}
use Rattle.session.specs.declared.course.Course.{Course}
use Rattle.session.proofs.Drafting.{one_in}
use Rattle.session.proofs.Calling.{drafts_move}
use Rattle.session.proofs.Deciding.{run_sound}
use Rattle.session.proofs.Drafts.{has_draft_in}
use Rattle.session.proofs.Walking.{KeepsCommit, committing_then}

-- ---- the same draft

-- The course is as it was but for its drafts and what it counts.
pub record IsSameBeside (s s' : Course) : Type 0 where
  pub client : s'.client ≡ s.client
  pub replies : s'.replies ≡ s.replies
  pub rights : s'.rights ≡ s.rights
  pub held : s'.held ≡ s.held
  pub stage : s'.stage ≡ s.stage
  pub turns : s'.turns ≡ s.turns

pub beside_settled : (s s' : Course) (walk more : WalkValue) → HasSettled walk more s s' → IsSameBeside s s'
beside_settled s s' walk more settled = record {
  client = ap (λ (x : Course). x.client) settled.only;
  replies = ap (λ (x : Course). x.replies) settled.only;
  rights = ap (λ (x : Course). x.rights) settled.only;
  held = ap (λ (x : Course). x.held) settled.only;
  stage = ap (λ (x : Course). x.stage) settled.only;
  turns = ap (λ (x : Course). x.turns) settled.only;
}

module _ {D : Type 0} (b : Ghosts D) (script : ScriptValue) (c : Common D) (s s' : Course) (ready : IsReady b script c s) (one : drafts_of s ≡ 1) (same : IsSameDraft s s') (beside : IsSameBeside s s') where
  pub safe_then : IsSafe (b.size c.store) c.map script s'
  safe_then = record {
    lines = subst (λ (r : RepliesValue). length r.items ≤ length script.lines) (sym beside.replies) ready.safe.lines;
    room = subst (λ (r : RepliesValue). length script.lines ≤ r.room) (sym beside.replies) ready.safe.room;
    held = ap (λ k. held_count k c.map) beside.client ∙ ready.safe.held ∙ sym beside.held;
    drafts = subst (AreSafeDrafts (b.size c.store) s'.drafts) (sym same.one)
        (one_in (b.size c.store) s'.drafts same.picked (subst (λ n. n < b.size c.store) (sym same.root) (has_draft_in b script c s ready one).base));
    stage = subst (IsSafeStage (length c.map) s') (sym (beside.stage ∙ ready.stage)) tt;
  }

  pub ready_then : IsReady b script c s'
  ready_then = record {
    line = subst (λ (r : RepliesValue). length r.items < length script.lines) (sym beside.replies) ready.line;
    store = ready.store;
    safe = safe_then;
    room =
        let F : RepliesValue → ℕ → Type 0 = λ r n. length (entries_of c) + (4 * (length script.lines - length r.items) - noted_for n) ≤ room_of c in
        subst (λ (r : RepliesValue). F r s'.held) (sym beside.replies) (subst (λ (n : ℕ). F s.replies n) (sym beside.held) ready.room);
    stage = beside.stage ∙ ready.stage;
  }

  commit_kept : KeepsCommit s s'
  commit_kept = record { client = beside.client; replies = beside.replies; rights = beside.rights; held = beside.held; one = same.one; count = same.count; object = same.object }

  -- ---- the pages are merged

  module _ (walk more : WalkValue) (settled : HasSettled walk more s s') where
    settles_owns : (opening : State) (scripts : Scripts) (first : ℕ) (scene : Scene) → IsIn b (IsWalkingBy walk) script c s opening scripts first scene
        → IsWalkingOn scripts scene script s' more
    settles_owns opening scripts first scene is =
        let x : IsWalkingOn scripts scene script s walk = is.mine in
        record {
          update = x.update;
          work = x.work;
          committing = committing_then scripts scene script s s' x.update x.work commit_kept x.committing;
          upto = x.upto;
          root = x.root;
          tree = x.tree;
          before = x.before;
          made = x.made;
          fed = x.fed;
          walking = subst (λ n. IsWalking scene x.work x.upto x.root x.tree x.before n x.made x.fed more (view_of s')) (sym same.root)
              (walk_settles scene x.work x.upto x.root x.tree x.before (view_of s) (view_of s') (root_of s) x.made x.fed walk more x.walking settled.settles);
          serial = same.serial ∙ x.serial;
          turns =
              let low = x.turns in
              let is = beside.turns in
              subst (λ h. s'.turns ≤ turns_to scene.standing.made h x.work x.upto + (1 + h) + x.fed) (sym beside.held) (omega (arith, low, is));
        }

    pub settles_move : MoveCall b (IsWalkingBy walk) (IsWalkingBy more) script c c s s'
    settles_move =
        drafts_move b (IsWalkingBy walk) (IsWalkingBy more) script c s s' ready safe_then beside.client beside.replies beside.held
        (λ told opening scripts first scene is. settles_owns opening scripts first scene is)

  -- ---- the walk ends

  module _ (walk : WalkValue) (ends : Ends walk (view_of s') walk.clash) (view : view_of s' ≡ view_of s) where
    ends_here : Ends walk (view_of s) walk.clash
    ends_here = subst (λ (d : View). Ends walk d walk.clash) view ends

    merges_owns : walk.clash ≡ None → (opening : State) (scripts : Scripts) (first : ℕ) (scene : Scene) → IsIn b (IsWalkingBy walk) script c s opening scripts first scene
        → IsMerged scripts scene script s'
    merges_owns none opening scripts first scene is =
        let x : IsWalkingOn scripts scene script s walk = is.mine in
        let there : HasMerged scene x.work (x.upto + 1) (root_of s) (tree_after x.tree x.made.steps) (view_of s) =
        walk_merges scripts scene x.work x.upto x.root x.tree x.before (view_of s) (root_of s) x.made x.fed walk is.stands.stands.shared
        (run_sound b opening scripts first scene c is.stands) x.walking ends_here none in
        record {
          update = x.update;
          work = x.work;
          tree = tree_after x.tree x.made.steps;
          committing = committing_then scripts scene script s s' x.update x.work commit_kept x.committing;
          merged =
              let F : ℕ → ℕ → View → Type 0 = λ n r d. HasMerged scene x.work n r (tree_after x.tree x.made.steps) d in
              subst (λ n. F n (root_of s') (view_of s')) (sym (same.serial ∙ x.serial))
              (subst (λ r. F (x.upto + 1) r (view_of s')) (sym same.root) (subst (λ (d : View). F (x.upto + 1) (root_of s) d) (sym view) there));
          turns =
              let F : ℕ → ℕ → Type 0 = λ h n. s'.turns ≤ turns_to scene.standing.made h x.work n + 0 in
              let ahead = x.walking.ahead in
              let more = turns_grow scene.standing.made s.held x.work x.made x.upto ahead.listed ahead.of_object ahead.serial x.walking.merged.from in
              let few = walk_is_within scene x.work x.upto x.root x.tree x.before (root_of s) x.made x.fed walk (view_of s) x.walking in
              let low = x.turns in
              let is = beside.turns in
              subst (λ n. F s'.held n) (sym (same.serial ∙ x.serial)) (subst (λ h. F h (x.upto + 1)) (sym beside.held) (omega (arith, more, few, low, is)));
        }

    clashes_owns : (path : List ℕ) (kind : Kind) → walk.clash ≡ Some (path, kind) → (opening : State) (scripts : Scripts) (first : ℕ) (scene : Scene)
        → IsIn b (IsWalkingBy walk) script c s opening scripts first scene → IsClashing (path, kind) scripts scene script s'
    clashes_owns path kind some opening scripts first scene is =
        let x : IsWalkingOn scripts scene script s walk = is.mine in
        record {
          update = x.update;
          work = x.work;
          committing = committing_then scripts scene script s s' x.update x.work commit_kept x.committing;
          clash = subst (λ n. IsFirstClash scene.standing.made x.work n (path, kind)) (sym (same.serial ∙ x.serial))
              (walk_clashes scene x.work x.upto x.root x.tree x.before (view_of s) (root_of s) x.made x.fed walk path kind x.walking ends_here some);
        }

    pub merges_move : walk.clash ≡ None → MoveCall b (IsWalkingBy walk) IsMerged script c c s s'
    merges_move none =
        drafts_move b (IsWalkingBy walk) IsMerged script c s s' ready safe_then beside.client beside.replies beside.held
        (λ told opening scripts first scene is. merges_owns none opening scripts first scene is)

    pub clashes_move : (path : List ℕ) (kind : Kind) → walk.clash ≡ Some (path, kind) → MoveCall b (IsWalkingBy walk) (IsClashing (path, kind)) script c c s s'
    clashes_move path kind some =
        drafts_move b (IsWalkingBy walk) (IsClashing (path, kind)) script c s s' ready safe_then beside.client beside.replies beside.held
        (λ told opening scripts first scene is. clashes_owns path kind some opening scripts first scene is)
