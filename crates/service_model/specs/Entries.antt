-- What each entry changes, and the state that a whole journal leads to.
use Rattle.std.specs.Prelude.{ℕ, zero, suc, ◌+◌, ◌-◌, Bool, true, false, not, ◌==◌, List, [], ◌∷◌, ◌++◌, map, filter, if◌then◌else◌, Option, Some, None, option_map, option_to_list, is_some, slice_get, slice_set}
use Rattle.std.specs.Option.{option_map_or}
use Rattle.script_text.specs.ScriptValue.{ScriptValue}
use Rattle.script_text.specs.declared.script.Line.{Line}
use Rattle.script_text.specs.declared.script.Mode.{Mode}
use Rattle.script_text.specs.declared.script.Mode.TheVariants.{Numbers}
use Rattle.script_text.specs.declared.command.Command.{Command}
use Rattle.script_text.specs.declared.command.Command.TheVariants.{Begin, Super, Pick, Do, Commit, Destroy, Prune}
use Rattle.script_text.specs.declared.command.FileName.{FileName}
use Rattle.service_model.specs.declared.journal.Entry.{Entry}
use Rattle.service_model.specs.declared.journal.What.{What}
use Rattle.service_model.specs.declared.journal.What.TheVariants.{Began, Held, Committed, Refused, GivenUp, Started, Created, Destroyed, Pruned, Answered}
use Rattle.service_model.specs.declared.named.Named.{Named}
use Rattle.tree_model.specs.declared.step.Step.{Step}
use Rattle.tree_model.specs.States.{State, File, Version, file_of, last_version}
use Rattle.tree_model.specs.Accesses.{fresh_as_top}
use Rattle.tree_model.specs.Trees.{tree_after}
use Rattle.service_model.specs.Causes.{cause_of, object_of, rights_by}
use Rattle.service_model.specs.Replies.{reply_at}
use Rattle.service_model.specs.Standing.{Scripts, Standing, Client, Update, Work, Made, Upkeep, start, client_of, with_client, next_line, last_tree, serial_of, renewed_works}
use Rattle.service_model.specs.Upkeep.{new_file, no_file, file_from, kept_from}

-- ---- files

-- the state with another entry in the table for an object
abbrev pub with_file : State → ℕ → File → State
with_file state object file = record state { files = slice_set state.files (object - 1) file }

-- the state after an object's entry was changed
abbrev pub on_file : State → ℕ → (File → File) → State
on_file state object change =
    option_map_or (λ file. with_file state object (change file)) (file_of state object) state

-- the version that an update's steps make of a last version
abbrev pub next_version : List Step → Version → Version
next_version steps v =
    record { serial = v.serial + 1; tree = tree_after v.tree steps; fresh = fresh_as_top v.tree steps }

-- a file with one more version, where it has a last one
abbrev pub with_next : List Step → File → File
with_next steps file =
    record file { versions = file.versions ++ map (next_version steps) (option_to_list (last_version file)) }

-- ---- updates

-- the files that a line names
abbrev pub names_of : Command → List FileName
names_of (Begin file) = file ∷ []
names_of (Super files) = files
names_of (Destroy file) = file ∷ []
names_of (Prune file keep) = file ∷ []
names_of _ = []

-- the line opens an update of several files
abbrev pub is_super : Command → Bool
is_super (Super files) = true
is_super _ = false

-- an update's part that begins from the last version of a file
abbrev pub work_on : State → FileName → Work
work_on state name = record {
  object = object_of name;
  serial = serial_of state (object_of name);
  base = last_tree state (object_of name);
  rights = rights_by name;
  steps = [];
}

-- the update that a line opens
abbrev pub opened : State → Command → Update
opened state command =
    record { works = map (work_on state) (names_of command); is_super = is_super command; picked = 0 }

-- the versions that an update began from
abbrev pub bases_of : Update → List Named
bases_of u = map (λ (w : Work). record { object = w.object; serial = w.serial }) u.works

-- a step more at the end of a part of an update
abbrev pub and_step : Step → Work → Work
and_step step w = record w { steps = w.steps ++ step ∷ [] }

-- the same parts but for the one at this place, to which the step goes
abbrev pub step_at : ℕ → Step → List Work → List Work
step_at i step [] = []
step_at zero step (w ∷ ws) = and_step step w ∷ ws
step_at (suc i) step (w ∷ ws) = w ∷ step_at i step ws

-- an update after a step on the file that steps go to
abbrev pub with_step : Step → Update → Update
with_step step u = record u { works = step_at u.picked step u.works }

-- the update after a line that was not refused: a file is picked, a step belongs to it, and a commit ends it
abbrev pub updated : Command → Option Update → Option Update
updated (Pick place) update = option_map (λ (u : Update). record u { picked = place }) update
updated (Do step) update = option_map (with_step step) update
updated Commit update = None
updated _ update = update

-- ---- commits

-- the state after a commit: each file that is renewed gets a new version
abbrev pub committed_in : State → List Work → State
committed_in state [] = state
committed_in state (w ∷ ws) = committed_in (on_file state w.object (with_next w.steps)) ws

-- the versions that a commit makes
abbrev pub made_by : State → Update → List Named
made_by state u =
    map (λ (w : Work). record { object = w.object; serial = serial_of state w.object + 1 }) (renewed_works u)

-- what is kept of a version that a commit makes, for the commits that come after it
abbrev pub news_by : State → Work → Made
news_by state w = record {
  object = w.object;
  serial = serial_of state w.object + 1;
  before = last_tree state w.object;
  steps = w.steps;
}

-- what is kept of all versions that a commit makes
abbrev pub news_of : State → Update → List Made
news_of state u = map (news_by state) (renewed_works u)

-- ---- entries

-- a client's line has one entry more
abbrev pub noting : What → Client → Client
noting what c = record c { noted = c.noted ++ what ∷ [] }

-- a client whose update is over, and which holds nothing
abbrev pub without_update : Client → Client
without_update c = record c { update = None; held = 0 }

-- a client whose line is answered
abbrev pub answered : Mode → Standing → ℕ → Command → Client → Client
answered mode s k command c = record {
  answers = c.answers ++ option_to_list (reply_at mode s k command);
  update = if is_some (cause_of s k command) then c.update else updated command c.update;
  held = c.held;
  noted = [];
}

-- the maintenance of other clients
abbrev pub upkeep_of_others : ℕ → Option Upkeep → Option Upkeep
upkeep_of_others k None = None
upkeep_of_others k (Some up) = if up.client == k then None else Some up

-- the serial from which the pruning of a line keeps
abbrev pub first_by : Standing → Command → ℕ
first_by s (Prune file keep) = kept_from s (object_of file) keep
first_by s _ = 0

-- the maintenance that a client's line begins
abbrev pub upkeep_by : Standing → ℕ → Command → Upkeep
upkeep_by s k command = record { client = k; first = first_by s command; frees = 0 }

-- the same maintenance, which will free so many blocks
abbrev pub freeing : ℕ → Option Upkeep → Option Upkeep
freeing blocks upkeep = option_map (λ (up : Upkeep). record up { frees = blocks }) upkeep

-- the entry of a new file
abbrev pub created : State → ℕ → File → File
created state object file = new_file state.key object (file.generation + 1)

-- what stands after an entry of client k, of a line with this command, but for the entries of that line.
-- With a file goes what is kept of its versions, since an object that is made again begins with serial 1.
abbrev pub changed : Mode → Standing → ℕ → Command → What → Standing
changed mode s k command (Began bases) =
    with_client s k (record (client_of s k) { update = Some (opened s.state command) })
changed mode s k command (Held blocks) = with_client s k (record (client_of s k) { held = blocks })
changed mode s k command (Committed made at) =
    record (with_client s k (record (client_of s k) { held = 0 })) {
      state = committed_in s.state (option_map_or renewed_works (client_of s k).update []);
      made = s.made ++ option_map_or (news_of s.state) (client_of s k).update [];
      moment = at;
    }
changed mode s k command (Refused why) = with_client s k (without_update (client_of s k))
changed mode s k command GivenUp = with_client s k (without_update (client_of s k))
changed mode s k command Started = record s { upkeep = Some (upkeep_by s k command) }
changed mode s k command (Created object at) =
    record (with_client s k (record (client_of s k) { held = 0 })) {
      state = on_file s.state object (created s.state object);
      moment = at;
    }
changed mode s k command (Destroyed object blocks at) =
    record s {
      state = on_file s.state object no_file;
      made = filter (λ (m : Made). not (m.object == object)) s.made;
      upkeep = freeing blocks s.upkeep;
      moment = at;
    }
changed mode s k command (Pruned object first blocks at) =
    record s { state = on_file s.state object (file_from first); upkeep = freeing blocks s.upkeep; moment = at }
changed mode s k command Answered =
    record (with_client s k (answered mode s k command (client_of s k))) { upkeep = upkeep_of_others k s.upkeep }

-- the entry ends its line
abbrev pub is_answer : What → Bool
is_answer Answered = true
is_answer _ = false

-- what stands with the entry noted, where it does not end its line
abbrev pub noted_in : Standing → ℕ → What → Standing
noted_in s k what = if is_answer what then s else with_client s k (noting what (client_of s k))

-- what stands after an entry of client k, of a line with this command
abbrev pub after_what : Mode → Standing → ℕ → Command → What → Standing
after_what mode s k command what = record (noted_in (changed mode s k command what) k what) { latest = k }

-- what stands after the update that was open at a script's end is given up
abbrev pub after_end : Standing → ℕ → Standing
after_end s k = record (with_client s k (without_update (client_of s k))) { latest = k }

-- how a client's script names files
abbrev pub mode_of : Scripts → ℕ → Mode
mode_of scripts k = option_map_or (λ (script : ScriptValue). script.mode) (slice_get scripts (k - 1)) Numbers

-- what stands after an entry, which belongs to its client's next line, or comes after its last one
abbrev pub after_entry : Scripts → Standing → Entry → Standing
after_entry scripts s e =
    option_map_or (λ (line : Line). after_what (mode_of scripts e.client) s e.client line.command e.what)
    (next_line scripts s e.client) (after_end s e.client)

-- what stands after these entries
abbrev pub after_entries : Scripts → Standing → List Entry → Standing
after_entries scripts s [] = s
after_entries scripts s (e ∷ es) = after_entries scripts (after_entry scripts s e) es

-- what stands after a journal over an opening state
abbrev pub standing_after : State → Scripts → List Entry → Standing
standing_after opening scripts es = after_entries scripts (start opening scripts) es

-- the state that the committed updates give, run one at a time in the order of the journal
abbrev pub serial_state : State → Scripts → List Entry → State
serial_state opening scripts es = (standing_after opening scripts es).state
