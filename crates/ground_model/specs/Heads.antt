-- What is told of the last versions of files, and where it is of use.
use Rattle.std.specs.Prelude.{◌≡◌, ◌≢◌, ℕ, ◌-◌, ◌<◌, ◌≤◌, true, List, Option, Some, None, is_some}
use Rattle.std.specs.Prelude.{slice_get}
use Rattle.afs_base.specs.declared.head.Head.{Head}
use Rattle.service_model.specs.Standing.{last_tree, seal_in, serial_of}
use Rattle.store_changes.specs.Stands.{IsPlace}
use Rattle.ground_model.specs.Own.{IsBase}
use Rattle.ground_model.specs.Scenes.{AreHeads, IsShared, Scene}

-- This is told of a live object: the serial of its last version, and the block where it lies, which
-- is a place, and so a block of the store, but not block 0.
pub record IsHeadOf (scene : Scene) (object : ℕ) (head : Head) : Type 0 where
  pub live : is_some (seal_in scene.standing.state object) ≡ true
  pub serial : head.serial ≡ serial_of scene.standing.state object
  pub place : IsPlace scene.places head.block
  pub low : head.block ≢ 0
  pub high : head.block < scene.store.root.blocks
  pub within : head.block < scene.most
  pub base : IsBase scene object head.serial head.block (last_tree scene.standing.state object)

-- What is told of an object is so.
abbrev pub HeadsTell : Type 0
HeadsTell =
    (scene : Scene) (heads : List (Option Head)) (object : ℕ) (head : Head)
    → IsShared scene → AreHeads scene heads → 1 ≤ object
    → slice_get heads (object - 1) ≡ Some (Some head) → IsHeadOf scene object head

-- An object of which nothing is told is not live.
abbrev pub NoHeadTells : Type 0
NoHeadTells =
    (scene : Scene) (heads : List (Option Head)) (object : ℕ)
    → IsShared scene → AreHeads scene heads → 1 ≤ object
    → ((head : Head) → slice_get heads (object - 1) ≡ Some (Some head) → ⊥)
    → seal_in scene.standing.state object ≡ None
