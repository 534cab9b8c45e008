-- What a client has of its own between two turns.
use Rattle.std.specs.Prelude.{◌≡◌, ◌≢◌, ◌⊎◌, ℕ, zero, suc, ◌-◌, ◌+◌, ◌<◌, ◌≤◌, ◌^◌, true, false}
use Rattle.std.specs.Prelude.{List, [], ◌∷◌, length, nat_lt, Option, Some, None, slice_get}
use Rattle.caps.specs.Grant.{has_rights}
use Rattle.draft_model.specs.Views.{View, Wants, copies}
use Rattle.ground_model.specs.Ahead.{IsWalking}
use Rattle.ground_model.specs.Bounds.{turns_to}
use Rattle.ground_model.specs.Own.{HasDraft, HasMerged, IsBase, IsClient, IsFlushing}
use Rattle.ground_model.specs.Scenes.{Scene}
use Rattle.joint_walk.specs.Walks.{WalkValue}
use Rattle.script_text.specs.ScriptValue.{ScriptValue}
use Rattle.script_text.specs.declared.command.Command.TheVariants.{Commit, Do}
use Rattle.script_text.specs.declared.script.Line.{Line}
use Rattle.service_model.specs.Causes.{right_for}
use Rattle.service_model.specs.Standing.{Scripts, Update, Upkeep, Work, Made, client_of}
use Rattle.service_model.specs.Standing.{has_writes, locked_by, need, serial_of as last_serial}
use Rattle.service_model.specs.Standing.{step_count}
use Rattle.pool_draft.specs.Roots.{object_in, root_in, serial_in}
use Rattle.pool_draft.specs.Sets.{base_at, picked_of, view_at}
use Rattle.service_model.specs.Legal.{IsFirstClash}
use Rattle.tree_model.specs.Accesses.{Place}
use Rattle.service_model.specs.declared.journal.What.{What}
use Rattle.service_model.specs.declared.journal.What.TheVariants.{Held}
use Rattle.tree_model.specs.Accesses.{end_of}
use Rattle.tree_model.specs.Trees.{Tree}
use Rattle.tree_model.specs.declared.step.Step.{Step}
use Rattle.version_chain.specs.Flush.{Plan, StartsAtRoot, base_of}
use Rattle.session.specs.Safe.{drafts_of, line_of, object_of, picked_view, rights_of, root_of}
use Rattle.session.specs.Safe.{serial_of, view_of}
use Rattle.session.specs.declared.course.Course.{Course}
use Rattle.session.specs.declared.stage.Stage.{Stage}
use Rattle.session.specs.declared.stage.Stage.TheVariants.{Resting, Naming, Walking, Writing}

-- ---- its place

-- The client is one of the run, this is its script, its lines were answered so, and no maintenance
-- is its own.
pub record IsSeated (scripts : Scripts) (scene : Scene) (script : ScriptValue)
    (s : Course) : Type 0 where
  pub client : IsClient scene.standing s.client
  pub its_script : slice_get scripts (s.client - 1) ≡ Some script
  pub answers : (client_of scene.standing s.client).answers ≡ s.replies.items
  pub idle : (up : Upkeep) → scene.standing.upkeep ≡ Some up → up.client ≢ s.client

-- ---- its update

-- The update is of one file, and no update of several; the client has one draft, with as many steps.
pub record IsPlain (s : Course) (u : Update) (w : Work) : Type 0 where
  pub plain : u.is_super ≡ false
  pub works : u.works ≡ w ∷ []
  pub picked : u.picked ≡ 0
  pub drafts : drafts_of s ≡ 1
  pub count : length w.steps ≡ s.drafts.count
  pub object : object_of s ≡ w.object

-- The pages that were fed for a step are fewer than the slots on the way to each page that it wants,
-- and no more than those on the way to its end.
pub record IsOnItsWay (d : View) (end : List ℕ) (fed : ℕ) : Type 0 where
  pub wants : (q : List ℕ) (block : ℕ) → Wants (copies d) end q block → fed < length q
  pub most : fed ≤ length end

-- The step of the next line is not refused, and pages were fed for it alone.
pub record IsFeeding (script : ScriptValue) (s : Course) : Type 0 where
  pub line : Line
  pub step : Step
  pub next : line_of script s ≡ Some line
  pub command : line.command ≡ Do step
  pub rights : has_rights (rights_of s) (right_for step) ≡ true
  pub few : s.drafts.count < 128
  pub way : IsOnItsWay (picked_view s) (end_of step) s.drafts.fed

-- No page was fed since the last step, or only for the next one.
abbrev pub HasFed : ScriptValue → Course → Type 0
HasFed script s = (s.drafts.fed ≡ 0) ⊎ IsFeeding script s

-- The draft with this number is that of the steps on one file of an update, on its base; and the
-- client knows the rights to the file.
pub record IsDraftOf (scene : Scene) (s : Course) (i : ℕ) (w : Work) : Type 0 where
  pub rights : slice_get s.rights.items i ≡ Some w.rights
  pub object : object_in (base_at s.drafts i) ≡ w.object
  pub serial : serial_in (base_at s.drafts i) ≡ w.serial
  pub draft : HasDraft scene w (root_in (base_at s.drafts i)) (view_at s.drafts i)

-- The client has a draft for each file of its update, with as many steps in all, and steps go to the
-- one that is picked. An update of several files is one that has more than one.
pub record IsDrafting (scene : Scene) (script : ScriptValue) (s : Course)
    (u : Update) : Type 0 where
  pub number : length u.works ≡ drafts_of s
  pub several : u.is_super ≡ nat_lt 1 (drafts_of s)
  pub picked : u.picked ≡ picked_of s.drafts
  pub within : picked_of s.drafts < drafts_of s
  pub count : step_count u ≡ s.drafts.count
  pub each : (i : ℕ) (w : Work) → slice_get u.works i ≡ Some w → IsDraftOf scene s i w
  pub fed : HasFed script s

-- A client has a draft exactly where its update is open.
abbrev pub OwnsUpdate : Scene → ScriptValue → Course → Option Update → Type 0
OwnsUpdate scene script s None = drafts_of s ≡ 0
OwnsUpdate scene script s (Some u) = IsDrafting scene script s u

-- The client is between two lines, or reads pages for a step: nothing is noted of the line, no block
-- is held, and no update is open behind the last line. Each turn of the line read a page.
pub record IsAtRest (scripts : Scripts) (scene : Scene) (script : ScriptValue)
    (s : Course) : Type 0 where
  pub seated : IsSeated scripts scene script s
  pub fresh : (client_of scene.standing s.client).noted ≡ []
  pub held : (client_of scene.standing s.client).held ≡ 0
  pub none : s.held ≡ 0
  pub update : OwnsUpdate scene script s (client_of scene.standing s.client).update
  pub closed : line_of script s ≡ None → drafts_of s ≡ 0
  pub turns : s.turns ≤ s.drafts.fed

-- ---- its commit

-- Of its commit the client noted nothing yet, or that it holds the blocks that the update needs.
abbrev pub IsTaken : ℕ → Update → List What → Type 0
IsTaken zero u noted = noted ≡ []
IsTaken (suc n) u noted = (noted ≡ Held (suc n) ∷ []) × (suc n ≡ need u)

-- The client commits its update of file w, in which something was written.
pub record IsCommittingOf (scripts : Scripts) (scene : Scene) (script : ScriptValue) (s : Course)
    (u : Update) (w : Work) : Type 0 where
  pub seated : IsSeated scripts scene script s
  pub is_open : (client_of scene.standing s.client).update ≡ Some u
  pub plain : IsPlain s u w
  pub line : Line
  pub next : line_of script s ≡ Some line
  pub command : line.command ≡ Commit
  pub writes : has_writes u ≡ true
  pub taken : IsTaken s.held u (client_of scene.standing s.client).noted
  pub held : (client_of scene.standing s.client).held ≡ s.held

-- Its draft is merged with the versions up to the one that is the draft's base now; and beyond what
-- these take the line had at most so many turns.
pub record IsMergedIn (more : ℕ) (scripts : Scripts) (scene : Scene) (script : ScriptValue)
    (s : Course) : Type 0 where
  pub update : Update
  pub work : Work
  pub tree : Tree
  pub committing : IsCommittingOf scripts scene script s update work
  pub merged : HasMerged scene work (serial_of s) (root_of s) tree (view_of s)
  pub turns : s.turns ≤ turns_to scene.standing.made s.held work (serial_of s) + more

-- So it is, and the line had no more turns.
abbrev pub IsMerged : Scripts → Scene → ScriptValue → Course → Type 0
IsMerged scripts scene script s = IsMergedIn 0 scripts scene script s

-- No other client has its file locked,
pub record IsUnlocked (scripts : Scripts) (scene : Scene) (script : ScriptValue)
    (s : Course) : Type 0 where
  pub merged : IsMerged scripts scene script s
  pub unlocked : locked_by scene.standing s.client merged.work.object ≡ None

-- and there is a version after that one;
pub record IsBehind (scripts : Scripts) (scene : Scene) (script : ScriptValue)
    (s : Course) : Type 0 where
  pub open_to : IsUnlocked scripts scene script s
  pub later : serial_of s < last_serial scene.standing.state open_to.merged.work.object

-- or that one is the last,
pub record IsDeciding (scripts : Scripts) (scene : Scene) (script : ScriptValue)
    (s : Course) : Type 0 where
  pub open_to : IsUnlocked scripts scene script s
  pub last : serial_of s ≡ last_serial scene.standing.state open_to.merged.work.object

-- and a serial is left,
pub record IsUnworn (scripts : Scripts) (scene : Scene) (script : ScriptValue)
    (s : Course) : Type 0 where
  pub deciding : IsDeciding scripts scene script s
  pub unworn : serial_of s < 2 ^ 64 - 1

-- and the client holds the blocks that the update needs.
pub record IsHolding (scripts : Scripts) (scene : Scene) (script : ScriptValue)
    (s : Course) : Type 0 where
  pub deciding : IsDeciding scripts scene script s
  pub unworn : serial_of s < 2 ^ 64 - 1
  pub some : 0 < s.held

-- The version after the one that its draft is merged with lies in this block: a read told it, or a
-- vain try to set the link after each page was written.
pub record IsNaming (scripts : Scripts) (scene : Scene) (script : ScriptValue) (s : Course)
    (next : ℕ) : Type 0 where
  pub merged : IsMergedIn (1 + s.held) scripts scene script s
  pub later : serial_of s < last_serial scene.standing.state merged.work.object
  pub tree : Tree
  pub base : IsBase scene merged.work.object (serial_of s + 1) next tree

-- A flush of its draft into the blocks that it holds is under way.
pub record IsWritingOut (scripts : Scripts) (scene : Scene) (script : ScriptValue) (s : Course)
    (flush : Plan) : Type 0 where
  pub merged : IsMergedIn flush.written scripts scene script s
  pub flushing : IsFlushing scene s.client (view_of s)
      (base_of (root_of s) merged.work.object (serial_of s)) flush
  pub top : StartsAtRoot flush.placed
  pub alone : flush.members ≡ []
  pub number : s.held ≡ length flush.placed
  pub within : flush.written ≤ length flush.placed
  pub unworn : serial_of s < 2 ^ 64 - 1

-- A walk over the version after those that its draft is merged with is under way. That version is
-- the draft's base now, and the draft showed `before` as the walk began.
pub record IsWalkingOn (scripts : Scripts) (scene : Scene) (script : ScriptValue) (s : Course)
    (walk : WalkValue) : Type 0 where
  pub update : Update
  pub work : Work
  pub committing : IsCommittingOf scripts scene script s update work
  pub upto : ℕ
  pub root : ℕ
  pub tree : Tree
  pub before : View
  pub made : Made
  pub fed : ℕ
  pub walking : IsWalking scene work upto root tree before (root_of s) made fed walk (view_of s)
  pub serial : serial_of s ≡ upto + 1
  pub turns : s.turns ≤ turns_to scene.standing.made s.held work upto + (1 + s.held) + fed

-- The walk ended with this clash.
pub record IsClashing (x : Place) (scripts : Scripts) (scene : Scene) (script : ScriptValue)
    (s : Course) : Type 0 where
  pub update : Update
  pub work : Work
  pub committing : IsCommittingOf scripts scene script s update work
  pub clash : IsFirstClash scene.standing.made work (serial_of s) x

-- The client commits an update in which something was written.
pub record IsCommitting (scripts : Scripts) (scene : Scene) (script : ScriptValue)
    (s : Course) : Type 0 where
  pub update : Update
  pub work : Work
  pub committing : IsCommittingOf scripts scene script s update work

-- ---- by what a turn is given

abbrev pub IsNamingAt : ℕ → Scripts → Scene → ScriptValue → Course → Type 0
IsNamingAt next scripts scene script s = IsNaming scripts scene script s next

abbrev pub IsWalkingBy : WalkValue → Scripts → Scene → ScriptValue → Course → Type 0
IsWalkingBy walk scripts scene script s = IsWalkingOn scripts scene script s walk

abbrev pub IsWritingBy : Plan → Scripts → Scene → ScriptValue → Course → Type 0
IsWritingBy flush scripts scene script s = IsWritingOut scripts scene script s flush

-- ---- the whole

-- What a client has of its own, by how far it has come within a line.
abbrev pub OwnsStage : Scripts → Scene → ScriptValue → Course → Stage → Type 0
OwnsStage scripts scene script s Resting = IsAtRest scripts scene script s
OwnsStage scripts scene script s (Naming next) = IsNaming scripts scene script s next
OwnsStage scripts scene script s (Walking walk) = IsWalkingOn scripts scene script s walk
OwnsStage scripts scene script s (Writing flush) = IsWritingOut scripts scene script s flush

abbrev pub IsOwn : Scripts → Scene → ScriptValue → Course → Type 0
IsOwn scripts scene script s = OwnsStage scripts scene script s s.stage
