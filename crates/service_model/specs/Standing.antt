-- What stands while a journal is gone through: the state, and what each client is about.
use Rattle.std.specs.Prelude.{ℕ, suc, ◌-◌, Bool, false, not, ◌&&◌, ◌==◌, List, [], ◌∷◌, map, filter, length, sum_by, if◌then◌else◌, Option, Some, None, option_and_then, slice_get, slice_index_or, slice_set}
use Rattle.std.specs.List.{list_any}
use Rattle.std.specs.Option.{option_map_or}
use Rattle.std.specs.FinMap as map
use Rattle.caps.specs.Grant.{SealValue}
use Rattle.script_text.specs.ScriptValue.{ScriptValue}
use Rattle.script_text.specs.declared.script.Line.{Line}
use Rattle.script_text.specs.declared.reply.LineReply.{LineReply}
use Rattle.service_model.specs.declared.journal.What.{What}
use Rattle.tree_model.specs.declared.step.Step.{Step}
use Rattle.tree_model.specs.Trees.{Tree}
use Rattle.tree_model.specs.Accesses.{all_writes, fresh_as_top}
use Rattle.tree_model.specs.States.{State, File, Version, is_live, file_of, last_version, last_serial, table_blocks}

-- The scripts of the clients, client 1 first.
abbrev pub Scripts : Type 0
Scripts = List ScriptValue

-- One file of an open update: the version that it began from, the rights to the file, and the steps
-- done on it.
pub record Work : Type 0 where
  pub object : ℕ
  pub serial : ℕ
  pub base : Tree
  pub rights : ℕ
  pub steps : List Step

-- An open update: its files in the order in which it named them, whether it is one of several files,
-- which has them locked, and the place of the file that steps go to.
pub record Update : Type 0 where
  pub works : List Work
  pub is_super : Bool
  pub picked : ℕ

-- A client: what its lines were answered so far, its open update, how many blocks it holds, and the
-- entries of the line under way.
pub record Client : Type 0 where
  pub answers : List LineReply
  pub update : Option Update
  pub held : ℕ
  pub noted : List What

-- A version that was made in this run: its file, its serial, the tree of the version before it, and
-- the steps of its update.
pub record Made : Type 0 where
  pub object : ℕ
  pub serial : ℕ
  pub before : Tree
  pub steps : List Step

-- Maintenance under way: whose it is, the serial from which a pruning keeps, and how many blocks will
-- be free after it.
pub record Upkeep : Type 0 where
  pub client : ℕ
  pub first : ℕ
  pub frees : ℕ

-- What stands: the state, the clients, the versions made in this run, the maintenance under way, the
-- moment of the last entry that has one, and whose the last entry was.
pub record Standing : Type 0 where
  pub state : State
  pub clients : List Client
  pub made : List Made
  pub upkeep : Option Upkeep
  pub moment : ℕ
  pub latest : ℕ

-- A client before its first line.
abbrev pub newcomer : Client
newcomer = record { answers = []; update = None; held = 0; noted = [] }

-- What stands before the first entry.
abbrev pub start : State → Scripts → Standing
start state scripts =
    record { state = state; clients = map (λ _. newcomer) scripts; made = []; upkeep = None; moment = 0; latest = 0 }

-- ---- clients and their lines

-- A client by its number, from 1.
abbrev pub client_of : Standing → ℕ → Client
client_of s k = slice_index_or s.clients (k - 1) newcomer

-- What stands with another client of this number.
abbrev pub with_client : Standing → ℕ → Client → Standing
with_client s k c = record s { clients = slice_set s.clients (k - 1) c }

-- The lines of a client's script.
abbrev pub lines_of : Scripts → ℕ → List Line
lines_of scripts k = option_map_or (λ (script : ScriptValue). script.lines) (slice_get scripts (k - 1)) []

-- A client's next line: the one after those that were answered.
abbrev pub next_line : Scripts → Standing → ℕ → Option Line
next_line scripts s k = slice_get (lines_of scripts k) (length (client_of s k).answers)

-- A client's last line.
abbrev pub last_line : Scripts → ℕ → Option Line
last_line scripts k = slice_get (lines_of scripts k) (length (lines_of scripts k) - 1)

-- ---- files

-- The tree of an object's last version.
abbrev pub last_tree : State → ℕ → Tree
last_tree state object =
    option_map_or (λ (v : Version). v.tree) (option_and_then last_version (file_of state object)) map.empty

-- The serial of an object's last version.
abbrev pub serial_of : State → ℕ → ℕ
serial_of state object = option_map_or (λ n. n) (option_and_then last_serial (file_of state object)) 0

-- The versions of an object.
abbrev pub versions_of : State → ℕ → List Version
versions_of state object = option_map_or (λ (file : File). file.versions) (file_of state object) []

-- What a file's capabilities are sealed with, where it is live.
abbrev pub seal_of : File → Option SealValue
seal_of file = if is_live file then Some (record { secret = file.secret; generation = file.generation }) else None

-- What an object's capabilities are sealed with, where it is live.
abbrev pub seal_in : State → ℕ → Option SealValue
seal_in state object = option_and_then seal_of (file_of state object)

-- ---- updates

-- The part that steps go to.
abbrev pub picked_work : Update → Option Work
picked_work u = slice_get u.works u.picked

-- How many steps were done in an update, over all its files.
abbrev pub step_count : Update → ℕ
step_count u = sum_by (λ w. length w.steps) u.works

-- Something was written to the file.
abbrev pub is_written : Work → Bool
is_written w = not (length (all_writes w.base w.steps) == 0)

-- Something was written to a file of the update.
abbrev pub has_writes : Update → Bool
has_writes u = list_any is_written u.works

-- Of these files those that were written, and the first one anyhow.
abbrev pub top_and_written : List Work → List Work
top_and_written [] = []
top_and_written (w ∷ ws) = w ∷ filter is_written ws

-- The files of an update that get a new version: those that were written, and where an update of
-- several files wrote anything, the top.
abbrev pub renewed_works : Update → List Work
renewed_works u = if u.is_super && has_writes u then top_and_written u.works else filter is_written u.works

-- How many blocks a commit of the update writes: one for each fresh path of the files that get a new
-- version. `/` is among these anyhow where a file was written, and alone where it was not.
abbrev pub need : Update → ℕ
need u = sum_by (λ w. length (fresh_as_top w.base w.steps)) (renewed_works u)

-- The update has this file.
abbrev pub has_file : ℕ → Update → Bool
has_file object u = list_any (λ w. w.object == object) u.works

-- The client has an open update of this file.
abbrev pub is_on : ℕ → Client → Bool
is_on object c = option_map_or (has_file object) c.update false

-- The client has an open update that locks this file.
abbrev pub has_locked : ℕ → Client → Bool
has_locked object c = option_map_or (λ u. u.is_super && has_file object u) c.update false

-- The least of these clients, the first of which has number n, that passes a test and is not client k.
abbrev pub first_other : ℕ → (Client → Bool) → ℕ → List Client → Option ℕ
first_other k test n [] = None
first_other k test n (c ∷ clients) =
    if test c && not (n == k) then Some n else first_other k test (suc n) clients

-- The other client that has a file locked.
abbrev pub locked_by : Standing → ℕ → ℕ → Option ℕ
locked_by s k object = first_other k (has_locked object) 1 s.clients

-- The least other client with an open update of a file.
abbrev pub pinned_by : Standing → ℕ → ℕ → Option ℕ
pinned_by s k object = first_other k (is_on object) 1 s.clients

-- ---- blocks

-- How many blocks the kept versions of a file hold.
abbrev pub kept_blocks : File → ℕ
kept_blocks file = sum_by (λ (v : Version). length v.fresh) file.versions

-- How many blocks are free: those that neither the table nor a kept version has, no client holds and
-- no sweep will free.
abbrev pub free : Standing → ℕ
free s =
    s.state.blocks - table_blocks s.state - sum_by kept_blocks s.state.files
    - sum_by (λ (c : Client). c.held) s.clients - option_map_or (λ (up : Upkeep). up.frees) s.upkeep 0
