-- What a client has of its own between two turns.
use Rattle.std.specs.Prelude.{◌≡◌, ◌≢◌, ℕ, ◌≤◌, true, List, [], length, Some, slice_get, Contains}
use Rattle.block_map.specs.States.{state_at}
use Rattle.block_map.specs.declared.states.BlockState.TheVariants.{Held}
use Rattle.draft_model.specs.Flush.{Placed, IsPlaced, are_apart}
use Rattle.draft_model.specs.Stands.{StandsFor}
use Rattle.draft_model.specs.Views.{View}
use Rattle.service_model.specs.Laws.{DoAlike}
use Rattle.service_model.specs.Legal.{IsLater, IsUnreadOf}
use Rattle.service_model.specs.Standing.{Standing, Upkeep, Work, Made, client_of}
use Rattle.store_model.specs.Found.{version_in}
use Rattle.store_model.specs.Laid.{LaidVersion}
use Rattle.store_model.specs.Laws.{pages_of}
use Rattle.tree_model.specs.Trees.{Tree}
use Rattle.version_chain.specs.Flush.{Plan, Base}
use Rattle.version_chain.specs.Laws.{HasWritten}
use Rattle.ground_model.specs.Scenes.{Scene, HasVersion}

-- ---- lines

-- The client is one of the run.
pub record IsClient (s : Standing) (k : ℕ) : Type 0 where
  pub low : 1 ≤ k
  pub high : k ≤ length s.clients

-- The client is between two lines: nothing is noted of the next one, it holds no block, and no
-- maintenance is its own.
pub record IsResting (s : Standing) (k : ℕ) : Type 0 where
  pub client : IsClient s k
  pub fresh : (client_of s k).noted ≡ []
  pub held : (client_of s k).held ≡ 0
  pub idle : (up : Upkeep) → s.upkeep ≡ Some up → up.client ≢ k

-- ---- drafts

-- The version of an object with this serial lies in this block, and has this tree.
pub record IsBase (scene : Scene) (object serial root : ℕ) (tree : Tree) : Type 0 where
  pub version : LaidVersion
  pub is : HasVersion scene.store object version
  pub serial_is : version.serial ≡ serial
  pub block_is : version.block ≡ root
  pub tree_is : (version_in version).tree ≡ tree

-- A draft of one file of an open update stands for the update's steps on the version that it began
-- from.
pub record HasDraft (scene : Scene) (w : Work) (root : ℕ) (d : View) : Type 0 where
  pub base : IsBase scene w.object w.serial root w.base
  pub stands : StandsFor (pages_of scene.content) root w.base w.steps d

-- No version of the file that was made after the base, up to this serial, wrote what the update
-- read.
abbrev pub IsUnreadTo : List Made → Work → ℕ → Type 0
IsUnreadTo made w upto = (m : Made) → Contains made m → IsLater w m → m.serial ≤ upto
    → IsUnreadOf w m

-- A draft was merged with the versions up to a serial, none of which wrote what it read: it stands
-- for the update's steps on the tree of that version, where they do what they did on the base.
pub record HasMerged (scene : Scene) (w : Work) (upto root : ℕ) (tree : Tree)
    (d : View) : Type 0 where
  pub from : w.serial ≤ upto
  pub base : IsBase scene w.object upto root tree
  pub stands : StandsFor (pages_of scene.content) root tree w.steps d
  pub alike : DoAlike w.base tree w.steps
  pub unread : IsUnreadTo scene.standing.made w upto

-- ---- blocks

-- A client holds the block.
abbrev pub IsHeldBy : Scene → ℕ → ℕ → Type 0
IsHeldBy scene k n = state_at scene.states n ≡ Held k

-- A flush of a draft is under way: its places are blocks that the client holds, no two of them one,
-- and each that was given out holds what is written there.
pub record IsFlushing (scene : Scene) (k : ℕ) (d : View) (base : Base) (plan : Plan) : Type 0 where
  pub placed : IsPlaced d plan.placed
  pub apart : are_apart plan.placed ≡ true
  pub mine : (i : ℕ) (x : Placed) → slice_get plan.placed i ≡ Some x → IsHeldBy scene k x.block
  pub done : HasWritten d base plan scene.content
