-- How many blocks of a store are in use.
use Rattle.std.specs.Prelude.{◌≡◌, ℕ, List, Option}
use Rattle.afs_base.specs.declared.head.Head.{Head}
use Rattle.block_map.specs.States.{free_count}
use Rattle.block_map.specs.declared.states.BlockState.{BlockState}
use Rattle.page_codec.specs.Values.{TableValue}
use Rattle.recovery.specs.Opening.{IsOpened}
use Rattle.service_model.specs.Laws.{IsFitting}
use Rattle.service_model.specs.Standing.{free}
use Rattle.store_changes.specs.Writes.{Content}
use Rattle.store_model.specs.Found.{state_in}
use Rattle.ground_model.specs.Scenes.{Scene, IsShared}

-- A store that was opened has no more blocks in use than there are, and its versions share what is
-- not fresh in them.
abbrev pub OpenedIsFitting : Type 0
OpenedIsFitting =
    (content : Content) (most : ℕ) (kept : TableValue) (states : List BlockState)
    (told : List (Option Head))
    → (is : IsOpened content most kept states told) → IsFitting (state_in is.store)

-- The map of a scene has as many free blocks as are free where its journal leads.
abbrev pub FreeIsCounted : Type 0
FreeIsCounted = (scene : Scene) → IsShared scene → free_count scene.states ≡ free scene.standing
