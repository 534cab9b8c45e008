-- How the draft of a client comes, and what becomes of it in the client's own turns.
use Rattle.std.specs.Prelude.{◌≡◌, ℕ, ◌+◌, ◌-◌, ◌≤◌, List, Option, Some, slice_get, Contains}
use Rattle.std.specs.Prelude.{None}
use Rattle.afs_base.specs.declared.head.Head.{Head}
use Rattle.draft_model.specs.Stands.{Begins, Feeds, Runs, StandsFor}
use Rattle.draft_model.specs.Views.{View, Wants, copies}
use Rattle.page_codec.specs.Values.{PageValue}
use Rattle.script_text.specs.declared.command.FileName.{FileName}
use Rattle.service_model.specs.Causes.{object_of}
use Rattle.service_model.specs.Entries.{and_step, work_on}
use Rattle.service_model.specs.Laws.{DoAlike}
use Rattle.service_model.specs.Standing.{Work, Made}
use Rattle.store_changes.specs.Stands.{IsPlace}
use Rattle.store_model.specs.Laws.{pages_of}
use Rattle.tree_model.specs.Accesses.{IsClash, reads_of, visible_of}
use Rattle.tree_model.specs.declared.step.Reply.{Reply}
use Rattle.tree_model.specs.declared.step.Step.{Step}
use Rattle.tree_model.specs.Trees.{Tree, reply_of, tree_after}
use Rattle.ground_model.specs.Leaves.{KeepsVersions}
use Rattle.ground_model.specs.Own.{HasDraft, HasMerged, IsBase}
use Rattle.ground_model.specs.Scenes.{Scene, AreHeads, IsShared}

-- A draft that begins on the page of the block that is told of a file's last version is one of the
-- work that begins there.
abbrev pub BeginsDraft : Type 0
BeginsDraft =
    (scene : Scene) (heads : List (Option Head)) (file : FileName) (head : Head)
    (page : PageValue) (d : View)
    → IsShared scene → AreHeads scene heads
    → slice_get heads (object_of file - 1) ≡ Some (Some head)
    → 1 ≤ object_of file
    → pages_of scene.content head.block ≡ Some page → Begins d head.block page
    → HasDraft scene (work_on scene.standing.state file) head.block d

-- A page that a draft wants lies in a place of the store.
abbrev pub WantedLies : Type 0
WantedLies =
    (scene : Scene) (w : Work) (root : ℕ) (d : View) (end q : List ℕ) (block : ℕ)
    → IsShared scene → HasDraft scene w root d → Wants (copies d) end q block
    → IsPlace scene.places block

-- A draft that was fed that page is one of the same work.
abbrev pub FedDraft : Type 0
FedDraft =
    (scene : Scene) (w : Work) (root : ℕ) (d e : View) (end q : List ℕ) (block : ℕ)
    (page : PageValue)
    → HasDraft scene w root d → Wants (copies d) end q block
    → pages_of scene.content block ≡ Some page
    → Feeds d e q page → HasDraft scene w root e

-- A draft on which a step was run is one of the work with that step, and the answer is the tree's.
abbrev pub SteppedDraft : Type 0
SteppedDraft =
    (scene : Scene) (w : Work) (root : ℕ) (d e : View) (step : Step) (answer : Reply)
    → HasDraft scene w root d → Runs d e step answer
    → (answer ≡ reply_of (tree_after w.base w.steps) step) × HasDraft scene (and_step step w) root e

-- A draft stays one of its work where every version is there again.
abbrev pub DraftStays : Type 0
DraftStays =
    (old new : Scene) (w : Work) (root : ℕ) (d : View) → KeepsVersions old new
    → HasDraft old w root d
    → HasDraft new w root d

-- ---- merging

-- At its base a draft is merged with nothing.
abbrev pub MergeBegins : Type 0
MergeBegins =
    (scene : Scene) (w : Work) (root : ℕ) (d : View) → HasDraft scene w root d
    → HasMerged scene w w.serial root w.base d

-- A draft that is merged up to a serial, and was carried over to the version after it by a walk
-- that found no clash, is merged up to that one. The later version is known by its update, and no
-- other has its serial.
pub record IsCarriedOver (scene : Scene) (w : Work) (upto : ℕ) (tree : Tree) (m : Made) (root : ℕ)
    (d : View) : Type 0 where
  pub listed : Contains scene.standing.made m
  pub of_object : m.object ≡ w.object
  pub serial : m.serial ≡ upto + 1
  pub before : m.before ≡ tree
  pub only : (n : Made) → Contains scene.standing.made n → n.object ≡ w.object
      → n.serial ≡ upto + 1 → n ≡ m
  pub none : IsClash (reads_of tree w.steps) (visible_of tree m.steps) None
  pub base : IsBase scene w.object (upto + 1) root (tree_after tree m.steps)
  pub stands : StandsFor (pages_of scene.content) root (tree_after tree m.steps) w.steps d
  pub alike : DoAlike tree (tree_after tree m.steps) w.steps

abbrev pub MergeGoesOn : Type 0
MergeGoesOn =
    (scene : Scene) (w : Work) (upto root next : ℕ) (tree : Tree) (d e : View) (m : Made)
    → HasMerged scene w upto root tree d → IsCarriedOver scene w upto tree m next e
    → HasMerged scene w (upto + 1) next (tree_after tree m.steps) e
