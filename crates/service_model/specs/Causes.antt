-- Why a line is refused before anything is done for it.
use Rattle.std.specs.Prelude.{ℕ, Bool, false, not, ◌==◌, ◌||◌, nat_lt, nat_le, List, [], ◌∷◌, map, length, if◌then◌else◌, Option, Some, None, is_some, is_none, option_map, option_and_then, Result, Ok, Err}
use Rattle.std.specs.List.{list_any}
use Rattle.caps.specs.declared.denied.DeniedWhy.{DeniedWhy}
use Rattle.caps.specs.declared.denied.DeniedWhy.TheVariants.{NoObject}
use Rattle.caps.specs.Grant.{granted, has_rights, restricted, rights_of}
use Rattle.caps.specs.Grant as caps
use Rattle.script_text.specs.declared.command.Command.{Command}
use Rattle.script_text.specs.declared.command.Command.TheVariants.{Begin, Super, Pick, Do, Commit, Abandon, Create, Destroy, Prune, Restrict}
use Rattle.script_text.specs.declared.command.FileName.{FileName}
use Rattle.script_text.specs.declared.command.FileName.TheVariants.{Number, Cap}
use Rattle.script_text.specs.declared.reply.LineRefusal.{LineRefusal}
use Rattle.script_text.specs.declared.reply.LineRefusal.TheVariants.{Open, Idle, Denied, DeniedTwice, DeniedRights, Full, NoSuchPick, Locked, NoSpace, Busy, Pinned, TableFull}
use Rattle.tree_model.specs.declared.step.Step.{Step}
use Rattle.tree_model.specs.declared.step.Step.TheVariants.{ReadAt, ListAt, WriteAt, MakeAt, DropAt}
use Rattle.tree_model.specs.States.{State}
use Rattle.service_model.specs.Standing.{Standing, Client, Update, Upkeep, client_of, seal_in, picked_work, step_count, locked_by, pinned_by, free}
use Rattle.service_model.specs.Upkeep.{new_object, new_blocks}

-- ---- names and rights

-- the right to read, which opening an update and its reads and lists need
abbrev pub reading : ℕ
reading = 1

-- the right to write, which writes, makes and drops need
abbrev pub writing : ℕ
writing = 2

-- the right to keep a file, which removing it and its versions needs
abbrev pub keeping : ℕ
keeping = 4

-- the object that a name stands for where it grants what is needed, or why it does not
abbrev pub granted_in : State → ℕ → FileName → Result ℕ DeniedWhy
granted_in state right (Number object) = if is_some (seal_in state object) then Ok object else Err NoObject
granted_in state right (Cap cap) = granted (seal_in state (caps.object_of cap)) cap right

-- the object that a name stands for
abbrev pub object_of : FileName → ℕ
object_of (Number object) = object
object_of (Cap cap) = caps.object_of cap

-- the rights that a name gives: all where it is a number
abbrev pub rights_by : FileName → ℕ
rights_by (Number object) = 7
rights_by (Cap cap) = rights_of cap

-- the right that a step needs
abbrev pub right_for : Step → ℕ
right_for (ReadAt p) = reading
right_for (ListAt p) = reading
right_for (WriteAt p bytes) = writing
right_for (MakeAt c) = writing
right_for (DropAt c) = writing

-- the capability that a name is with the rights that it and a mask have
abbrev pub restricted_in : State → FileName → ℕ → Result (List ℕ) DeniedWhy
restricted_in state (Number object) mask = Err NoObject
restricted_in state (Cap cap) mask = restricted (seal_in state (caps.object_of cap)) cap mask

-- ---- causes

-- the first cause that is there
abbrev pub first_cause : List (Option LineRefusal) → Option LineRefusal
first_cause [] = None
first_cause (None ∷ causes) = first_cause causes
first_cause (Some cause ∷ causes) = Some cause

-- a cause that is there where a test holds
abbrev pub when : Bool → LineRefusal → Option LineRefusal
when test cause = if test then Some cause else None

-- why a name is refused
abbrev pub denial : {X : Type 0} → Result X DeniedWhy → Option LineRefusal
denial (Ok x) = None
denial (Err why) = Some (Denied (record { why = why }))

-- an update is open
abbrev pub open_cause : Client → Option LineRefusal
open_cause c = when (is_some c.update) Open

-- no update is open
abbrev pub idle_cause : Client → Option LineRefusal
idle_cause c = when (is_none c.update) Idle

-- a name does not grant what is needed
abbrev pub denied_cause : State → ℕ → FileName → Option LineRefusal
denied_cause state right name = denial (granted_in state right name)

-- two of these are one
abbrev pub has_twice : List ℕ → Bool
has_twice [] = false
has_twice (n ∷ ns) = list_any (λ m. m == n) ns || has_twice ns

-- one of these objects is locked by another client: the first such one counts
abbrev pub locked_cause : Standing → ℕ → List ℕ → Option LineRefusal
locked_cause s k objects = first_cause (map (λ object. option_map Locked (locked_by s k object)) objects)

-- another client's maintenance is under way
abbrev pub busy_cause : Standing → ℕ → Option LineRefusal
busy_cause s k = option_and_then (λ (up : Upkeep). when (not (up.client == k)) (Busy up.client)) s.upkeep

-- the update has no file at this place
abbrev pub pick_cause : ℕ → Update → Option LineRefusal
pick_cause place u = when (nat_le (length u.works) place) NoSuchPick

-- the rights to the file that steps go to do not allow this step
abbrev pub rights_cause : Step → Update → Option LineRefusal
rights_cause step u =
    option_and_then (λ w. when (not (has_rights w.rights (right_for step))) DeniedRights) (picked_work u)

-- the update has done as many steps as it may
abbrev pub full_cause : Update → Option LineRefusal
full_cause u = when (nat_le 128 (step_count u)) Full

-- there is no entry for a new file, or too few blocks are free for it
abbrev pub room_cause : Standing → Option ℕ → Option LineRefusal
room_cause s None = Some TableFull
room_cause s (Some object) =
    when (nat_lt (free s) (new_blocks s.state object)) (NoSpace (new_blocks s.state object) (free s))

-- the causes of a line, in the order in which they are tried. Those of a commit with an update have entries of their own.
abbrev pub causes_of : Standing → ℕ → Command → List (Option LineRefusal)
causes_of s k (Begin file) = open_cause (client_of s k) ∷ denied_cause s.state reading file ∷ []
causes_of s k (Super files) =
    open_cause (client_of s k) ∷ first_cause (map (denied_cause s.state reading) files)
    ∷ when (has_twice (map object_of files)) DeniedTwice ∷ locked_cause s k (map object_of files) ∷ []
causes_of s k (Pick place) =
    idle_cause (client_of s k) ∷ option_and_then (pick_cause place) (client_of s k).update ∷ []
causes_of s k (Do step) =
    idle_cause (client_of s k) ∷ option_and_then (rights_cause step) (client_of s k).update
    ∷ option_and_then full_cause (client_of s k).update ∷ []
causes_of s k Commit = idle_cause (client_of s k) ∷ []
causes_of s k Abandon = idle_cause (client_of s k) ∷ []
causes_of s k Create = open_cause (client_of s k) ∷ busy_cause s k ∷ room_cause s (new_object s.state) ∷ []
causes_of s k (Destroy file) =
    open_cause (client_of s k) ∷ denied_cause s.state keeping file ∷ busy_cause s k
    ∷ option_map Pinned (pinned_by s k (object_of file)) ∷ []
causes_of s k (Prune file keep) = open_cause (client_of s k) ∷ denied_cause s.state keeping file ∷ busy_cause s k ∷ []
causes_of s k (Restrict file mask) = denial (restricted_in s.state file mask) ∷ []

-- the first cause that applies to a line of client k
abbrev pub cause_of : Standing → ℕ → Command → Option LineRefusal
cause_of s k command = first_cause (causes_of s k command)
