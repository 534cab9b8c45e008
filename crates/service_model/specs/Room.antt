-- That no more blocks are in use than there are, after every legal journal.
use Rattle.std.specs.Prelude.{◌≡◌, ◌⊎◌, ℕ, ◌+◌, ◌≤◌, true, List, [], ◌∷◌, sum_by, slice_get, Some, Contains}
use Rattle.std.specs.Option.{option_map_or}
use Rattle.script_text.specs.declared.command.Command.{Command}
use Rattle.script_text.specs.declared.command.Command.TheVariants.{Create}
use Rattle.script_text.specs.declared.script.Line.{Line}
use Rattle.service_model.specs.declared.journal.What.TheVariants.{Held, Started}
use Rattle.tree_model.specs.States.{State, Version, table_blocks}
use Rattle.tree_model.specs.Trees.{has}
use Rattle.service_model.specs.Standing.{Scripts, Standing, Client, Upkeep, client_of, next_line, versions_of, kept_blocks}
use Rattle.service_model.specs.Upkeep.{new_object, new_blocks}

-- ---- blocks in use

-- How many blocks a state has in use: those of the table and of all kept versions.
abbrev pub stored_blocks : State → ℕ
stored_blocks state = table_blocks state + sum_by kept_blocks state.files

-- How many blocks the clients hold.
abbrev pub held_blocks : Standing → ℕ
held_blocks s = sum_by (λ (c : Client). c.held) s.clients

-- How many blocks maintenance under way will free.
abbrev pub freed_blocks : Standing → ℕ
freed_blocks s = option_map_or (λ (up : Upkeep). up.frees) s.upkeep 0

-- How many blocks are in use: those of the state, those held, and those that maintenance will free.
abbrev pub used : Standing → ℕ
used s = stored_blocks s.state + held_blocks s + freed_blocks s

-- ---- what versions share

-- Each page of a version is fresh or is in the version before it.
abbrev pub IsSharing : Version → Version → Type 0
IsSharing before v = (p : List ℕ) → has v.tree p ≡ true → Contains v.fresh p ⊎ (has before.tree p ≡ true)

-- So it is of each of these versions but the first one.
abbrev pub AreSharing : List Version → Type 0
AreSharing versions =
    (k : ℕ) (u v : Version) → slice_get versions k ≡ Some u → slice_get versions (k + 1) ≡ Some v → IsSharing u v

-- So it is of the versions of every file.
abbrev pub FilesShare : State → Type 0
FilesShare state = (object : ℕ) → AreSharing (versions_of state object)

-- ---- all that stands

-- What is so of the blocks of a line of client k.
pub record IsRoomyLine (s : Standing) (k : ℕ) (command : Command) : Type 0 where
  -- a commit holds the blocks that it noted
  pub committing : (blocks : ℕ) → (client_of s k).noted ≡ Held blocks ∷ [] → (client_of s k).held ≡ blocks
  -- where the making of a file has just begun, as many blocks are free as it takes
  pub beginning : (object : ℕ) → command ≡ Create → (client_of s k).noted ≡ Started ∷ [] → s.latest ≡ k
      → new_object s.state ≡ Some object → used s + new_blocks s.state object ≤ s.state.blocks
  -- the making of a file holds as many blocks as it takes
  pub making : (object blocks : ℕ) → (client_of s k).noted ≡ Started ∷ Held blocks ∷ []
      → new_object s.state ≡ Some object → (client_of s k).held ≡ new_blocks s.state object

-- No more blocks are in use than there are.
pub record HasRoom (scripts : Scripts) (s : Standing) : Type 0 where
  -- as many blocks as there are suffice
  pub within : used s ≤ s.state.blocks
  -- each version shares with the one before it what is not fresh in it
  pub sharing : FilesShare s.state
  -- the blocks of each line under way are those that it takes
  pub lines : (k : ℕ) (line : Line) → 1 ≤ k → next_line scripts s k ≡ Some line → IsRoomyLine s k line.command
