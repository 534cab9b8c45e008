-- What the turns of a client leave the others: what they rely on, and the links that they set.
use Rattle.std.specs.Prelude.{◌≢◌, ℕ, ◌≤◌, List}
use Rattle.block_map.specs.declared.states.BlockState.{BlockState}
use Rattle.pair_store.specs.declared.store.Blocks.{Ghosts}
use Rattle.script_text.specs.declared.script.Line.{Line}
use Rattle.service_model.specs.declared.journal.Entry.{Entry}
use Rattle.service_model.specs.declared.named.Named.{Named}
use Rattle.service_model.specs.Standing.{Scripts, Standing, Update, Work}
use Rattle.store_changes.specs.Writes.{Content}
use Rattle.page_codec.specs.Values.{MemberValue}
use Rattle.tree_model.specs.States.{State}
use Rattle.ground_model.specs.Laws.{Leads}
use Rattle.ground_model.specs.Leaves.{Leaves}
use Rattle.ground_model.specs.Linking.{IsSettingLinks, LeavesLinks, LeavesNames, Link}
use Rattle.ground_model.specs.Rolling.{IsAnsweredCommit, IsMarkedTo}
use Rattle.ground_model.specs.Runs.{Stands}
use Rattle.ground_model.specs.Scenes.{Scene}
use Rattle.ground_model.specs.Several.{AreCommitted, Renewal}
use Rattle.ground_model.specs.SeveralAnswers.{IsAnsweredTop}
use Rattle.ground_model.specs.Steps.{moved_to}
use Rattle.ground_model.specs.Turns.{IsLinkTurn}

-- A turn of another client leaves client j what it relies on, the files whose links it sets, and
-- who names them.
pub record LeavesAll (j : ℕ) (old new : Scene) : Type 0 where
  pub relied : Leaves j old new
  pub links : LeavesLinks j old new
  pub names : LeavesNames j old new

-- Every client but this one is left that.
abbrev pub LeavesAllOthers : ℕ → Scene → Scene → Type 0
LeavesAllOthers k old new = (j : ℕ) → 1 ≤ j → j ≢ k → LeavesAll j old new

-- What is left by one turn and by the next is left by both.
abbrev pub LeavesAllGoOn : Type 0
LeavesAllGoOn =
    (j : ℕ) (old mid new : Scene) → LeavesAll j old mid → LeavesAll j mid new
    → LeavesAll j old new

-- A client that is left that sets the links that it set.
abbrev pub LeftLinksStay : Type 0
LeftLinksStay =
    (k : ℕ) (old new : Scene) (u : Update) (made : List Named) (at object block : ℕ)
    (members : List MemberValue) (left : List Link)
    → LeavesAll k old new → IsSettingLinks old k u made at object block members left
    → IsSettingLinks new k u made at object block members left

-- So are the others left by each turn that leads to a scene with the same store: by the turns that
-- at most read, take blocks or give them back, and by those that write a block that is held;
abbrev pub MovedLeavesAll : Type 0
MovedLeavesAll =
    (k : ℕ) (scene : Scene) (content : Content) (states : List BlockState) (standing : Standing)
    → Leads k scene (moved_to scene content states standing)
    → LeavesAllOthers k scene (moved_to scene content states standing)

-- by the turn of the link of a commit of one file, whether or not it is answered in it;
abbrev pub LinkLeavesAll : {D : Type 0} → Ghosts D → Type 0
LinkLeavesAll {D} b =
    (opening : State) (scripts : Scripts) (first k : ℕ) (scene new : Scene) (before after : D)
    (es fs : List Entry) (line : Line) (u : Update) (w : Work) (states : List BlockState)
    → Stands b opening scripts first scene before es
    → IsLinkTurn b scripts k scene before after line u w states
    → Stands b opening scripts first new after fs → Leads k scene new
    → LeavesAllOthers k scene new

-- by the one link of a commit of several files;
abbrev pub CommitLeavesAll : Type 0
CommitLeavesAll =
    (scripts : Scripts) (k : ℕ) (old new : Scene) (line : Line) (u : Update) (top : Renewal)
    (members : List Renewal) (block at : ℕ) (content : Content) (states : List BlockState)
    → AreCommitted scripts k old new line u top members block at content states
    → LeavesAllOthers k old new

-- by that link and the answer in one turn;
abbrev pub AnsweredTopLeavesAll : Type 0
AnsweredTopLeavesAll =
    (k : ℕ) (old new : Scene) (u : Update) (top : Renewal) (content : Content)
    (states : List BlockState)
    → IsAnsweredTop k old new u top content states → LeavesAllOthers k old new

-- and by each turn after it: one that writes a version page anew in its place, and the answer.
abbrev pub MarkLeavesAll : Type 0
MarkLeavesAll =
    (k : ℕ) (old new : Scene) (content : Content) → IsMarkedTo k old new content
    → LeavesAllOthers k old new

abbrev pub AnswerLeavesAll : Type 0
AnswerLeavesAll =
    (k : ℕ) (u : Update) (made : List Named) (old new : Scene) → IsAnsweredCommit k u made old new
    → LeavesAllOthers k old new
