-- Lists of block states, block 0 first.
use Rattle.std.specs.Prelude.{◌≡◌, ℕ, ◌≤◌, ◌==◌, nat_lt, Bool, true, false, ◌&&◌, if◌then◌else◌, List, length, take, count_by, slice_index_or}
use Rattle.afs_base.specs.declared.limits.TheConstants.{MAX_BLOCKS, MIN_BLOCKS}
use Rattle.block_map.specs.declared.states.BlockState.{BlockState}
use Rattle.block_map.specs.declared.states.BlockState.TheVariants.{Free, Held, Kept}

-- a block is free
abbrev pub is_free : BlockState → Bool
is_free Free = true
is_free (Held by) = false
is_free Kept = false

-- a client holds a block
abbrev pub is_held : ℕ → BlockState → Bool
is_held client Free = false
is_held client (Held by) = by == client
is_held client Kept = false

-- the state of block k; past the end nothing is free
abbrev pub state_at : List BlockState → ℕ → BlockState
state_at states k = slice_index_or states k Kept

-- how many blocks are free
abbrev pub free_count : List BlockState → ℕ
free_count states = count_by is_free states

-- how many blocks below k are free
abbrev pub free_below : List BlockState → ℕ → ℕ
free_below states k = free_count (take k states)

-- how many blocks a client holds
abbrev pub held_count : ℕ → List BlockState → ℕ
held_count client states = count_by (is_held client) states

-- how many blocks below k a client holds
abbrev pub held_below : ℕ → List BlockState → ℕ → ℕ
held_below client states k = held_count client (take k states)

-- block k is one of the n least free ones: it is free, and fewer than n below it are
abbrev pub is_least : List BlockState → ℕ → ℕ → Bool
is_least states n k = is_free (state_at states k) && nat_lt (free_below states k) n

-- the n least free blocks are now held by the client, and all others are as before
pub record TakesLeast (client n : ℕ) (old new : List BlockState) : Type 0 where
  pub size : length new ≡ length old
  pub states : (k : ℕ) → state_at new k ≡ (if is_least old n k then Held client else state_at old k)

-- the blocks that the client held have another state, and all others are as before
pub record Replaces (client : ℕ) (by : BlockState) (old new : List BlockState) : Type 0 where
  pub size : length new ≡ length old
  pub states : (k : ℕ) → state_at new k ≡ (if is_held client (state_at old k) then by else state_at old k)

-- the table's block is kept, the free blocks are counted, and none is below `least`
pub record IsSound (states : List BlockState) (free least : ℕ) : Type 0 where
  pub table : state_at states 0 ≡ Kept
  pub some : MIN_BLOCKS ≤ length states
  pub most : length states ≤ MAX_BLOCKS
  pub count : free ≡ free_count states
  pub none_below : free_below states least ≡ 0
