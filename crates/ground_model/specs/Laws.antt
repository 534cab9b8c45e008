-- What follows for every scene.
use Rattle.std.specs.Prelude.{◌≡◌, ℕ, true, List}
use Rattle.std.specs.List.{list_all}
use Rattle.block_map.specs.declared.states.BlockState.{BlockState}
use Rattle.draft_model.specs.Views.{View}
use Rattle.service_model.specs.declared.journal.Entry.{Entry}
use Rattle.service_model.specs.Sound.{IsOn}
use Rattle.service_model.specs.Standing.{Scripts, Standing, Work}
use Rattle.store_changes.specs.Writes.{Content}
use Rattle.tree_model.specs.States.{State}
use Rattle.tree_model.specs.Trees.{Tree}
use Rattle.version_chain.specs.Flush.{Plan, Base}
use Rattle.ground_model.specs.Fronts.{Images, AllFronts, Turns, AreTurns, last_of, is_by}
use Rattle.ground_model.specs.Fronts.{entries_of}
use Rattle.ground_model.specs.Leaves.{Leaves, KeepsVersions, LeavesOthers}
use Rattle.ground_model.specs.Own.{HasDraft, HasMerged, IsFlushing, IsResting}
use Rattle.ground_model.specs.Scenes.{Scene, IsMadeOf, IsShared}
use Rattle.ground_model.specs.Steps.{IsHeldWrite, IsLatest, IsLineStep, IsLinkSet, IsNoted}
use Rattle.ground_model.specs.Steps.{moved_to, with_content}

-- ---- what others leave

-- A client that is left what it relies on rests as it rested; its draft, its merged draft and its
-- flush are what they were.
pub record Keeps (k : ℕ) (old new : Scene) : Type 0 where
  pub resting : IsResting old.standing k → IsResting new.standing k
  pub draft : (w : Work) → IsOn old.standing k w → (root : ℕ) (d : View) → HasDraft old w root d
      → HasDraft new w root d
  pub merged : (w : Work) → IsOn old.standing k w → (upto root : ℕ) (tree : Tree) (d : View)
      → HasMerged old w upto root tree d → HasMerged new w upto root tree d
  pub flush : (d : View) (base : Base) (plan : Plan) → IsFlushing old k d base plan
      → IsFlushing new k d base plan

abbrev pub LeftIsKept : Type 0
LeftIsKept = (k : ℕ) (old new : Scene) → Leaves k old new → Keeps k old new

-- What is left by one step and by the next is left by both.
abbrev pub LeavesGoOn : Type 0
LeavesGoOn = (k : ℕ) (old mid new : Scene) → Leaves k old mid → Leaves k mid new → Leaves k old new

-- ---- steps

-- A step leads to a scene, in which each version is there again, and leaves the others what they
-- rely on.
pub record Leads (k : ℕ) (old new : Scene) : Type 0 where
  pub shared : IsShared new
  pub versions : KeepsVersions old new
  pub leaves : LeavesOthers k old new

-- So does a step of a client's line,
abbrev pub LineStepLeads : Type 0
LineStepLeads =
    (k : ℕ) (old : Scene) (content : Content) (states : List BlockState) (standing : Standing)
    → IsShared old → IsLineStep k old content states standing
    → Leads k old (moved_to old content states standing)

-- a write of a block that the client holds,
abbrev pub HeldWriteLeads : Type 0
HeldWriteLeads =
    (k block : ℕ) (old : Scene) (content : Content)
    → IsShared old → IsHeldWrite k block old content → Leads k old (with_content old content)

-- and the link of a commit of one file.
abbrev pub LinkLeads : Type 0
LinkLeads =
    (k : ℕ) (old new : Scene) → IsShared old → (l : IsLinkSet k old new)
    → (noted : IsNoted k old.standing new.standing l.next.object l.next.version)
    → IsLatest old l.next.object l.next.version
    → IsMadeOf old.content noted.news l.next.base.block l.next.version.block
    → Leads k old new

-- ---- any number of turns

-- Whatever turns follow one another: what a crash at any moment leaves is the state after a front
-- of the journal, which has each entry that was acknowledged by then, and at most one more that
-- changes the state.
abbrev pub TurnsRecover : {D X : Type 0} → Images D X → Type 0
TurnsRecover {D} i =
    (opening : State) (scripts : Scripts) (first : ℕ) (d : D) (es : List Entry) (turns : Turns D)
    → AllFronts i opening scripts first d es → list_all (is_by (i.moment d)) es ≡ true
    → AreTurns i opening scripts d es turns
    → AllFronts i opening scripts first (last_of d turns) (entries_of es turns)
