-- What stays of a commit of several files, and what follows from its parts.
use Rattle.std.specs.Prelude.{◌≡◌, ℕ, List}
use Rattle.std.specs.List.{AllByRecursion}
use Rattle.block_map.specs.States.{held_count, state_at}
use Rattle.block_map.specs.declared.states.BlockState.{BlockState}
use Rattle.block_map.specs.declared.states.BlockState.TheVariants.{Held}
use Rattle.pool_draft.specs.declared.pool_set.PoolSet.{PoolSet}
use Rattle.pool_draft.specs.Sets.{AreSameDrafts}
use Rattle.joint_flush.specs.Joint.{Joint, Part, IsReadyNumber, IsJoint, IsReadyJoint}

-- in another map the client holds the blocks that it held, and no more
pub record HoldsSame (client : ℕ) (old new : List BlockState) : Type 0 where
  pub held : (n : ℕ) → state_at old n ≡ Held client → state_at new n ≡ Held client
  pub count : held_count client new ≡ held_count client old

-- where the client holds the same blocks, and the drafts are the same, the parts are those of the commit as before
abbrev pub StaysLaw : Type 0
StaysLaw =
    (set set' : PoolSet) (old new : List BlockState) (client : ℕ) (j : Joint) (parts : List Part)
    → AreSameDrafts set set' → HoldsSame client old new
    → IsJoint set old client j parts → IsJoint set' new client j parts

-- .. and it is as ready
abbrev pub ReadyStaysLaw : Type 0
ReadyStaysLaw =
    (set set' : PoolSet) (old new : List BlockState) (client : ℕ) (j : Joint)
    → AreSameDrafts set set' → HoldsSame client old new
    → IsReadyJoint set old client j → IsReadyJoint set' new client j

-- a commit that has parts is ready, where each file's serial can be raised
abbrev pub ReadyLaw : Type 0
ReadyLaw =
    (set : PoolSet) (states : List BlockState) (client : ℕ) (j : Joint) (parts : List Part)
    → AllByRecursion (IsReadyNumber set) j.numbers → IsJoint set states client j parts
    → IsReadyJoint set states client j
