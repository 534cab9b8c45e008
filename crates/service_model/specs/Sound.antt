-- What is so of all that stands after a legal journal.
use Rattle.std.specs.Prelude.{◌≡◌, ◌≢◌, ℕ, ◌+◌, ◌<◌, ◌≤◌, Bool, true, false, not, ◌&&◌, [], ◌∷◌, List, map, length, slice_get, Some, IsSomeAnd, All, Contains}
use Rattle.std.specs.List.{list_any}
use Rattle.afs_base.specs.Path.{are_slots}
use Rattle.script_text.specs.declared.command.Command.{Command}
use Rattle.script_text.specs.declared.command.FileName.{FileName}
use Rattle.script_text.specs.declared.command.Command.TheVariants.{Super, Do, Commit, Destroy, Prune}
use Rattle.script_text.specs.declared.script.Line.{Line}
use Rattle.service_model.specs.declared.journal.What.{What}
use Rattle.service_model.specs.declared.journal.What.TheVariants.{Held, Committed, Started, Answered}
use Rattle.tree_model.specs.declared.step.Step.{Step}
use Rattle.tree_model.specs.declared.step.Step.TheVariants.{ReadAt, ListAt, WriteAt, MakeAt, DropAt}
use Rattle.tree_model.specs.Accesses.{target}
use Rattle.tree_model.specs.States.{State, Version, IsState}
use Rattle.tree_model.specs.Trees.{tree_after}
use Rattle.service_model.specs.Causes.{object_of, has_twice}
use Rattle.service_model.specs.Standing.{Scripts, Standing, Update, Work, Made, Upkeep, client_of, lines_of, next_line, versions_of, serial_of, step_count, has_file}

-- ---- what a script may say

-- The bytes that a step writes.
abbrev pub bytes_of : Step → List ℕ
bytes_of (ReadAt p) = []
bytes_of (ListAt p) = []
bytes_of (WriteAt p bytes) = bytes
bytes_of (MakeAt c) = []
bytes_of (DropAt c) = []

-- A step is one of trees of files: its path has at most seven slots, each below 16, and it writes at most
-- 800 bytes.
pub record IsTreeStep (step : Step) : Type 0 where
  pub short : length (target step) ≤ 7
  pub slots : are_slots (target step) ≡ true
  pub few : length (bytes_of step) ≤ 800

-- A line may be in a script: its step is one of trees of files, its update has a file, its pruning keeps a
-- version.
abbrev pub IsSayable : Command → Type 0
IsSayable (Do step) = IsTreeStep step
IsSayable (Super files) = files ≢ []
IsSayable (Prune file keep) = 1 ≤ keep
IsSayable _ = Unit {0}

-- So may each line of these scripts.
abbrev pub AreSayable : Scripts → Type 0
AreSayable scripts =
    (k n : ℕ) (line : Line) → slice_get (lines_of scripts k) n ≡ Some line → IsSayable line.command

-- ---- one update

-- The version that an update of a file began from is kept, and its steps are steps of trees of files.
pub record IsBased (state : State) (w : Work) : Type 0 where
  pub version : Version
  pub kept : Contains (versions_of state w.object) version
  pub serial : version.serial ≡ w.serial
  pub tree : version.tree ≡ w.base
  pub steps : All IsTreeStep w.steps

-- It is known which update made a version: of what is kept of the versions made in this run this is the
-- one of that file and serial.
pub record IsKnown (state : State) (list : List Made) (object : ℕ) (v : Version) : Type 0 where
  pub made : Made
  pub listed : Contains list made
  pub of_object : made.object ≡ object
  pub serial : made.serial ≡ v.serial
  pub tree : v.tree ≡ tree_after made.before made.steps
  pub before : (u : Version) → Contains (versions_of state object) u → u.serial + 1 ≡ v.serial
      → u.tree ≡ made.before
  pub only : (m : Made) → Contains list m → m.object ≡ object → m.serial ≡ v.serial → m ≡ made

-- What is so of each open update.
pub record IsSoundUpdate (state : State) (made : List Made) (u : Update) : Type 0 where
  -- the bases of its files are kept
  pub based : (w : Work) → Contains u.works w → IsBased state w
  -- each version after a base was made in this run
  pub later : (w : Work) → Contains u.works w → (v : Version) → Contains (versions_of state w.object) v
      → w.serial < v.serial → IsKnown state made w.object v
  -- no more steps were done than may be
  pub few : step_count u ≤ 128
  -- there is a file that steps go to
  pub picked : u.picked < length u.works
  -- no two of its files are one
  pub differ : has_twice (map (λ (w : Work). w.object) u.works) ≡ false

-- The bases of an update are the last versions of its files.
abbrev pub AreLast : State → Update → Type 0
AreLast state u = (w : Work) → Contains u.works w → w.serial ≡ serial_of state w.object

-- ---- entries of a line

-- The entry says that blocks were taken.
abbrev pub is_taking : What → Bool
is_taking (Held blocks) = true
is_taking _ = false

-- The entry decides how its line is answered.
abbrev pub is_deciding : What → Bool
is_deciding (Held blocks) = false
is_deciding Started = false
is_deciding Answered = false
is_deciding _ = true

-- The entry is a commit.
abbrev pub is_committing : What → Bool
is_committing (Committed made at) = true
is_committing _ = false

-- The entry begins maintenance.
abbrev pub is_starting : What → Bool
is_starting Started = true
is_starting _ = false

-- A line with these entries has taken blocks and is not decided yet.
abbrev pub is_holding : List What → Bool
is_holding noted = list_any is_taking noted && not (list_any is_deciding noted)

-- Client k's line under way has an entry of a kind.
abbrev pub HasNoted : Standing → ℕ → (What → Bool) → Type 0
HasNoted s k test = list_any test (client_of s k).noted ≡ true

-- ---- all updates

-- Client k has this update open.
abbrev pub IsOpenAt : Standing → ℕ → Update → Type 0
IsOpenAt s k u = (client_of s k).update ≡ Some u

-- Client k has an update of this file open.
pub record IsOn (s : Standing) (k : ℕ) (w : Work) : Type 0 where
  pub update : Update
  pub number : 1 ≤ k
  pub is_open : IsOpenAt s k update
  pub listed : Contains update.works w

-- Two updates of several files have no file together.
abbrev pub AreApart : Update → Update → Type 0
AreApart u v =
    (object : ℕ) → u.is_super ≡ true → v.is_super ≡ true
    → has_file object u ≡ true → has_file object v ≡ true → ⊥

-- No client has an update of the object open.
abbrev pub IsLetAlone : Standing → ℕ → Type 0
IsLetAlone s object = (k : ℕ) (w : Work) → IsOn s k w → w.object ≢ object

-- A pruning of an object from this serial on keeps its last version and the bases of all open updates.
pub record IsPrunable (s : Standing) (object first : ℕ) : Type 0 where
  pub last : first ≤ serial_of s.state object
  pub bases : (k : ℕ) (w : Work) → IsOn s k w → w.object ≡ object → first ≤ w.serial

-- What is so within a line of client k.
pub record IsSoundLine (s : Standing) (k : ℕ) (command : Command) : Type 0 where
  -- what was committed in it is its commit
  pub committing : HasNoted s k is_committing → command ≡ Commit
  -- where a removal has just begun no client has an update of its file open
  pub removing : (file : FileName) → command ≡ Destroy file → (client_of s k).noted ≡ Started ∷ []
      → s.latest ≡ k → IsLetAlone s (object_of file)
  -- a pruning that began keeps the last version and the bases of all open updates
  pub pruning : (file : FileName) (keep : ℕ) (up : Upkeep) → command ≡ Prune file keep
      → (client_of s k).noted ≡ Started ∷ [] → s.upkeep ≡ Some up → IsPrunable s (object_of file) up.first

-- ---- all that stands

-- What is so of all that stands.
pub record IsSound (scripts : Scripts) (s : Standing) : Type 0 where
  -- the state is one
  pub state : IsState s.state
  -- serials begin with 1
  pub counted : (object : ℕ) (v : Version) → Contains (versions_of s.state object) v → 1 ≤ v.serial
  -- each open update is sound
  pub updates : (k : ℕ) (u : Update) → 1 ≤ k → IsOpenAt s k u → IsSoundUpdate s.state s.made u
  -- an update of several files keeps others off: until it is committed its bases are the last versions
  pub locked : (k : ℕ) (u : Update) → 1 ≤ k → IsOpenAt s k u → u.is_super ≡ true
      → list_any is_committing (client_of s k).noted ≡ false → AreLast s.state u
  -- no version that was made is later than the last one of its file
  pub low : (m : Made) → Contains s.made m → m.serial ≤ serial_of s.state m.object
  -- no two clients have locked one file
  pub alone : (j k : ℕ) (u v : Update) → 1 ≤ j → 1 ≤ k → j ≢ k → IsOpenAt s j u → IsOpenAt s k v → AreApart u v
  -- a client holds blocks only while its line does
  pub held : (k : ℕ) → 1 ≤ k → is_holding (client_of s k).noted ≡ false → (client_of s k).held ≡ 0
  -- maintenance is under way within a line of its client alone
  pub upkeep : (up : Upkeep) → s.upkeep ≡ Some up → (1 ≤ up.client) × HasNoted s up.client is_starting
  -- and within each line that began it
  pub started : (k : ℕ) → 1 ≤ k → HasNoted s k is_starting → IsSomeAnd s.upkeep (λ (up : Upkeep). up.client ≡ k)
  -- each line under way is sound
  pub lines : (k : ℕ) (line : Line) → 1 ≤ k → next_line scripts s k ≡ Some line → IsSoundLine s k line.command
