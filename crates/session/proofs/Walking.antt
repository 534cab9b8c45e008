-- What a client that names a version, or walks over one, has of its own: that it stays so, and that its turn goes on.
use Rattle.std.proofs.Common.{◌≡◌, ◌≢◌, ◌⊎◌, inl, inr, ℕ, ◌-◌, ◌+◌, List, [], length, refl, sym, ap, ◌∙◌, subst, arith, slice_get}
use Rattle.block_map.specs.declared.states.BlockState.{BlockState}
use Rattle.joint_walk.specs.Walks.{WalkValue}
use Rattle.pair_store.specs.declared.store.Blocks.{Ghosts}
use Rattle.script_text.specs.ScriptValue.{ScriptValue}
use Rattle.service_model.specs.Sound.{IsSound}
use Rattle.service_model.specs.Standing.{Scripts, Update, Work, client_of}
use Rattle.store_changes.specs.Writes.{Content}
use Rattle.tree_model.specs.States.{State}
use Rattle.ground_model.specs.Laws.{Leads}
use Rattle.ground_model.specs.Leaves.{KeepsVersions}
use Rattle.ground_model.specs.Own.{IsClient}
use Rattle.ground_model.specs.Runs.{IsRead}
use Rattle.ground_model.specs.Scenes.{Scene, IsLinking, IsShared}
use Rattle.ground_model.specs.Steps.{moved_to}
use Rattle.ground_model.proofs.Ahead.{base_stays, merged_stays_own, walk_stays_own}
use Rattle.ground_model.proofs.Noted.{nothing_is_noted}
use Rattle.session.specs.Ends.{TurnGoes}
use Rattle.session.specs.Own.{IsCommitting, IsCommittingOf, IsMergedIn, IsNaming, IsOwn, IsTaken, IsWalkingOn, OwnsStage}
use Rattle.session.specs.Reads.{StoreAlone}
use Rattle.session.specs.Safe.{drafts_of, object_of, serial_of, root_of, view_of}
use Rattle.session.specs.Shared.{RunStands, entries_of}
use Rattle.session.specs.Values.{RepliesValue}
use Rattle.session.specs.declared.common.Common.{Common}
use Rattle.session.specs.declared.course.Course.{Course}
use Rattle.session.specs.declared.stage.Stage.TheVariants as stage
use Rattle.session.proofs.BlockLaws.{BlockLaws}
use Rattle.session.proofs.Deciding.{is_on, run_sound, sets_none}
use Rattle.session.proofs.Going.{goes_read, quiet_is_line, shares_read, turn_goes}

-- ---- the same commit

-- The client commits the same update, with a draft of the same file and as many steps.
pub record KeepsCommit (s s' : Course) : Type 0 where
  pub client : s'.client ≡ s.client
  pub replies : s'.replies ≡ s.replies
  pub rights : s'.rights ≡ s.rights
  pub held : s'.held ≡ s.held
  pub one : drafts_of s' ≡ 1
  pub count : s'.drafts.count ≡ s.drafts.count
  pub object : object_of s' ≡ object_of s

pub committing_then : (scripts : Scripts) (scene : Scene) (script : ScriptValue) (s s' : Course) (u : Update) (w : Work) → KeepsCommit s s' → IsCommittingOf scripts scene script s u w
    → IsCommittingOf scripts scene script s' u w
committing_then scripts scene script s s' u w k co = record {
  seated = record {
    client = subst (λ (n : ℕ). IsClient scene.standing n) (sym k.client) co.seated.client;
    its_script = ap (λ (n : ℕ). slice_get scripts (n - 1)) k.client ∙ co.seated.its_script;
    answers = ap (λ (n : ℕ). (client_of scene.standing n).answers) k.client ∙ co.seated.answers ∙ ap (λ (r : RepliesValue). r.items) (sym k.replies);
    idle = λ up is e. co.seated.idle up is (e ∙ k.client);
  };
  is_open = ap (λ (n : ℕ). (client_of scene.standing n).update) k.client ∙ co.is_open;
  plain = record {
    plain = co.plain.plain;
    works = co.plain.works;
    picked = co.plain.picked;
    drafts = k.one;
    count = co.plain.count ∙ sym k.count;
    object = k.object ∙ co.plain.object;
  };
  line = co.line;
  next = ap (λ (r : RepliesValue). slice_get script.lines (length r.items)) k.replies ∙ co.next;
  command = co.command;
  writes = co.writes;
  taken = subst (λ (n : ℕ). IsTaken n u (client_of scene.standing s'.client).noted) (sym k.held) (subst (λ (n : ℕ). IsTaken s.held u (client_of scene.standing n).noted) (sym k.client) co.taken);
  held = ap (λ (n : ℕ). (client_of scene.standing n).held) k.client ∙ co.held ∙ sym k.held;
}

-- ---- a turn of its own that only read

module _ (scripts : Scripts) (scene : Scene) (script : ScriptValue) (s : Course) (content : Content) (states : List BlockState)
    (keeps : KeepsVersions scene (moved_to scene content states scene.standing)) where
  abbrev after : Scene
  after = moved_to scene content states scene.standing

  committing_on : (u : Update) (w : Work) → IsCommittingOf scripts scene script s u w → IsCommittingOf scripts after script s u w
  committing_on u w co = record {
    seated = record { client = co.seated.client; its_script = co.seated.its_script; answers = co.seated.answers; idle = co.seated.idle };
    is_open = co.is_open;
    plain = co.plain;
    line = co.line;
    next = co.next;
    command = co.command;
    writes = co.writes;
    taken = co.taken;
    held = co.held;
  }

  merged_on : (more : ℕ) → IsMergedIn more scripts scene script s → IsMergedIn more scripts after script s
  merged_on more m = record {
    update = m.update;
    work = m.work;
    tree = m.tree;
    committing = committing_on m.update m.work m.committing;
    merged = merged_stays_own scene after m.work (serial_of s) (root_of s) m.tree (view_of s) keeps refl m.merged;
    turns = m.turns;
  }

  pub naming_on : (next : ℕ) → IsNaming scripts scene script s next → IsNaming scripts after script s next
  unfolding merged_on
  naming_on next n = record {
    merged = merged_on (1 + s.held) n.merged;
    later = n.later;
    tree = n.tree;
    base = base_stays scene after n.merged.work.object (serial_of s + 1) next n.tree keeps n.base;
  }

  pub walking_on : (walk : WalkValue) → IsShared after → IsSound scripts scene.standing → IsWalkingOn scripts scene script s walk → IsWalkingOn scripts after script s walk
  walking_on walk shared sound x = record {
    update = x.update;
    work = x.work;
    committing = committing_on x.update x.work x.committing;
    upto = x.upto;
    root = x.root;
    tree = x.tree;
    before = x.before;
    made = x.made;
    fed = x.fed;
    walking =
        walk_stays_own scripts s.client scene after x.work x.upto x.root x.tree x.before (view_of s) (root_of s) x.made x.fed walk keeps refl shared sound
        (is_on scripts scene script s x.update x.work x.committing) x.walking;
    serial = x.serial;
    turns = x.turns;
  }

-- ---- its next stage

-- The client names a version, or walks over one, in this scene.
abbrev pub IsPassing : Scripts → Scene → ScriptValue → Course → Type 0
IsPassing scripts scene script s =
    ((next : ℕ) × (s.stage ≡ stage.Naming next) × IsNaming scripts scene script s next)
    ⊎ ((walk : WalkValue) × (s.stage ≡ stage.Walking walk) × IsWalkingOn scripts scene script s walk)

commits_then : (scripts : Scripts) (scene : Scene) (script : ScriptValue) (s : Course) → IsPassing scripts scene script s → IsCommitting scripts scene script s
commits_then scripts scene script s (inl (next, is, n)) = record { update = n.merged.update; work = n.merged.work; committing = n.merged.committing }
commits_then scripts scene script s (inr (walk, is, x)) = record { update = x.update; work = x.work; committing = x.committing }

module _ {D : Type 0} (b : Ghosts D) (laws : BlockLaws b) (opening : State) (scripts : Scripts) (first : ℕ) (scene : Scene) (c c' : Common D) (script : ScriptValue) (s' : Course)
    (st : RunStands b opening scripts first scene c) (alone : StoreAlone b c c') (read : IsRead b c.store c'.store) (mine : IsPassing scripts scene script s') where
  commits : IsCommitting scripts scene script s'
  commits = commits_then scripts scene script s' mine

  links : (object : ℕ) (l : IsLinking scene.standing object) → l.client ≢ s'.client
  links = sets_none scripts scene script s' commits.update commits.work commits.committing

  abbrev scene_then : Scene
  scene_then = moved_to scene (b.content c'.store) scene.states scene.standing

  leads : Leads s'.client scene scene_then
  leads =
      (laws.lines opening scripts first s'.client scene c.store c'.store (entries_of c) [] (client_of scene.standing s'.client) scene.states st.stands
      (quiet_is_line b scripts s'.client scene c.store c'.store [] (client_of scene.standing s'.client) st.stands.shared.map (record {
        client = commits.committing.seated.client;
        notes = nothing_is_noted scripts scene.standing s'.client;
        held = refl;
        links = links;
        read = read;
        moments = record { moments = refl; one = omega arith };
      }))).1

  then_owns : IsPassing scripts scene script s' → IsOwn scripts scene_then script s'
  then_owns (inl (next, is, n)) =
      subst (OwnsStage scripts scene_then script s') (sym is) (naming_on scripts scene script s' (b.content c'.store) scene.states leads.versions next n)
  then_owns (inr (walk, is, x)) =
      subst (OwnsStage scripts scene_then script s') (sym is)
      (walking_on scripts scene script s' (b.content c'.store) scene.states leads.versions walk leads.shared (run_sound b opening scripts first scene c st) x)

  pub under_way_goes : TurnGoes b opening scripts first scene c c' script s'
  under_way_goes =
      turn_goes b opening scripts first scene scene_then c c' script s' s'.client [] refl
      (goes_read b laws.lines opening scripts first s'.client scene c c' st commits.committing.seated.client links read (shares_read b c c' alone) (ap (λ (x : Common D). x.locks) alone.only))
      (record { moments = refl; one = omega arith }) (then_owns mine)
