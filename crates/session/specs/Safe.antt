-- What holds of what the clients share, and of each of them, whether or not contents are told:
-- numbers alone.
use Rattle.std.specs.Prelude.{◌≡◌, ℕ, zero, suc, ◌-◌, ◌*◌, ◌+◌, ◌<◌, ◌≤◌, ◌^◌, List, length}
use Rattle.std.specs.Prelude.{Option, Some, slice_get}
use Rattle.std.specs.Option.{option_map_or}
use Rattle.afs_base.specs.declared.head.Head.{Head}
use Rattle.block_map.specs.States.{held_count}
use Rattle.block_map.specs.declared.states.BlockState.{BlockState}
use Rattle.draft_model.specs.Flush.{Placed, IsPlaced}
use Rattle.draft_model.specs.Views.{View}
use Rattle.pool_draft.specs.Roots.{object_in, root_in, serial_in}
use Rattle.pool_draft.specs.Sets.{base_at, picked_of, roots_of, view_at}
use Rattle.pool_draft.specs.declared.pool_set.PoolSet.{PoolSet}
use Rattle.script_text.specs.ScriptValue.{ScriptValue}
use Rattle.script_text.specs.declared.script.Line.{Line}
use Rattle.version_chain.specs.Flush.{Plan, StartsAtRoot}
use Rattle.session.specs.declared.common.Common.{Common}
use Rattle.session.specs.declared.course.Course.{Course}
use Rattle.session.specs.declared.stage.Stage.{Stage}
use Rattle.session.specs.declared.stage.Stage.TheVariants.{Resting, Naming, Walking, Writing}

-- ---- the draft of a client's update

-- What it shows; the block of its base's version page, the base's file, and its serial.
abbrev pub view_of : Course → View
view_of s = view_at s.drafts 0

abbrev pub root_of : Course → ℕ
root_of s = root_in (base_at s.drafts 0)

abbrev pub object_of : Course → ℕ
object_of s = object_in (base_at s.drafts 0)

abbrev pub serial_of : Course → ℕ
serial_of s = serial_in (base_at s.drafts 0)

-- What the draft shows that steps go to, and the rights to its file.
abbrev pub picked_view : Course → View
picked_view s = view_at s.drafts (picked_of s.drafts)

abbrev pub rights_of : Course → ℕ
rights_of s = option_map_or (λ (n : ℕ). n) (slice_get s.rights.items (picked_of s.drafts)) 0

-- How many drafts a client has: one for each file of the update that is open.
abbrev pub drafts_of : Course → ℕ
drafts_of s = roots_of s.drafts

-- ---- numbers

-- What is told of last versions names blocks of the store, and the map has no more blocks.
pub record IsSafeStore {D : Type 0} (size : D → ℕ) (c : Common D) : Type 0 where
  pub heads : (k : ℕ) (head : Head) → slice_get c.heads.items k ≡ Some (Some head)
      → head.block < size c.store
  pub named : (k : ℕ) (head : Head) → slice_get c.heads.items k ≡ Some (Some head)
      → 0 < head.block
  pub map : length c.map ≤ size c.store

-- Drafts, one of which is picked, and whose bases are in the store.
pub record AreDraftsIn (size : ℕ) (set : PoolSet) (n : ℕ) : Type 0 where
  pub picked : picked_of set < n
  pub bases : (i : ℕ) → i < n → root_in (base_at set i) < size

-- A client has one such draft; or none, and no step was done.
abbrev pub AreSafeDrafts : ℕ → PoolSet → ℕ → Type 0
AreSafeDrafts size set zero = (set.count ≡ 0) × (set.fed ≡ 0)
AreSafeDrafts size set (suc zero) = AreDraftsIn size set 1
AreSafeDrafts size set (suc (suc n)) = ⊥

-- The client has one draft, which is picked and whose base is in the store.
pub record HasDraftIn (size : ℕ) (s : Course) : Type 0 where
  pub one : drafts_of s ≡ 1
  pub picked : picked_of s.drafts ≡ 0
  pub base : root_of s < size

-- A flush writes each page of the draft into a block of the map, and a serial is left.
pub record IsSafeFlush (blocks : ℕ) (s : Course) (plan : Plan) : Type 0 where
  pub placed : IsPlaced (view_of s) plan.placed
  pub top : StartsAtRoot plan.placed
  pub within : (k : ℕ) (x : Placed) → slice_get plan.placed k ≡ Some x → x.block < blocks
  pub serial : serial_of s + 1 < 2 ^ 64

-- A client that walks or writes has a draft.
abbrev pub IsSafeStage : ℕ → Course → Stage → Type 0
IsSafeStage blocks s Resting = Unit {0}
IsSafeStage blocks s (Naming next) = drafts_of s ≡ 1
IsSafeStage blocks s (Walking walk) = drafts_of s ≡ 1
IsSafeStage blocks s (Writing flush) = (drafts_of s ≡ 1) × IsSafeFlush blocks s flush

-- The answers fit the script and the room that was made for them; the client holds as many blocks as
-- it counts.
pub record IsSafe (size : ℕ) (map : List BlockState) (script : ScriptValue)
    (s : Course) : Type 0 where
  pub lines : length s.replies.items ≤ length script.lines
  pub room : length script.lines ≤ s.replies.room
  pub held : held_count s.client map ≡ s.held
  pub drafts : AreSafeDrafts size s.drafts (drafts_of s)
  pub stage : IsSafeStage (length map) s s.stage

-- ---- room for entries

-- An entry was noted where blocks are held.
abbrev pub noted_for : ℕ → ℕ
noted_for zero = 0
noted_for (suc n) = 1

-- How many entries a client may still note: four for each line that is not answered, but for the one
-- that was noted.
abbrev pub entries_left : ScriptValue → Course → ℕ
entries_left script s = 4 * (length script.lines - length s.replies.items) - noted_for s.held

-- ---- lines

-- The line under way, or the next one.
abbrev pub line_of : ScriptValue → Course → Option Line
line_of script s = slice_get script.lines (length s.replies.items)
