-- Why a line of an update of one file is refused, as it is tried: the first test that fails tells.
use Rattle.std.specs.Prelude.{◌≡◌, ℕ, not, nat_le, [], ◌∷◌, length, if◌then◌else◌}
use Rattle.std.specs.Prelude.{Option, Some, None, is_none, is_some}
use Rattle.caps.specs.declared.denied.DeniedWhy.TheVariants.{NoObject}
use Rattle.caps.specs.Grant.{SealValue, granted, has_rights}
use Rattle.script_text.specs.declared.command.Command.TheVariants.{Abandon, Begin, Commit, Do}
use Rattle.script_text.specs.declared.command.FileName.{FileName}
use Rattle.script_text.specs.declared.command.FileName.TheVariants.{Cap, Number}
use Rattle.script_text.specs.declared.reply.LineRefusal.{LineRefusal}
use Rattle.script_text.specs.declared.reply.LineRefusal.TheVariants.{Denied, DeniedRights, Full}
use Rattle.script_text.specs.declared.reply.LineRefusal.TheVariants.{Idle, Open}
use Rattle.service_model.specs.Causes.{cause_of, denial, object_of, right_for}
use Rattle.service_model.specs.Standing.{Standing, Update, Work, client_of, seal_in}
use Rattle.tree_model.specs.declared.step.Step.{Step}

-- ---- opening an update of a file

-- Why a name is refused, by the seal of the object that it stands for, where that is live: a number
-- where it is not live, and a capability where it does not grant reading.
abbrev pub name_cause : Option SealValue → FileName → Option LineRefusal
name_cause seal (Number object) =
    if is_some seal then None else Some (Denied (record { why = NoObject }))
name_cause seal (Cap cap) = denial (granted seal cap 1)

-- An update of a file may be opened where none is open and the name is not refused.
abbrev pub CauseOfBegin : Type 0
CauseOfBegin =
    (s : Standing) (k : ℕ) (file : FileName)
    → cause_of s k (Begin file) ≡ (if is_some (client_of s k).update
    then Some Open
    else name_cause (seal_in s.state (object_of file)) file)

-- ---- lines of an open update

-- Why a step on a file is refused: the rights to the file do not allow it, or the update has as
-- many steps as it may.
abbrev pub step_cause : Work → Step → Option LineRefusal
step_cause w step =
    if not (has_rights w.rights (right_for step))
    then Some DeniedRights
    else if nat_le 128 (length w.steps) then Some Full else None

-- So it is of a step where an update of one file is open.
abbrev pub CauseOfStep : Type 0
CauseOfStep =
    (s : Standing) (k : ℕ) (step : Step) (u : Update) (w : Work)
    → (client_of s k).update ≡ Some u → u.works ≡ w ∷ [] → u.picked ≡ 0
    → cause_of s k (Do step) ≡ step_cause w step

-- Where no update is open, a step is refused for that.
abbrev pub CauseOfIdleStep : Type 0
CauseOfIdleStep =
    (s : Standing) (k : ℕ) (step : Step) → (client_of s k).update ≡ None
    → cause_of s k (Do step) ≡ Some Idle

-- For that alone a commit is refused before anything is done for it,
abbrev pub CauseOfCommit : Type 0
CauseOfCommit =
    (s : Standing) (k : ℕ)
    → cause_of s k Commit ≡ (if is_none (client_of s k).update then Some Idle else None)

-- and so is an abandon.
abbrev pub CauseOfAbandon : Type 0
CauseOfAbandon =
    (s : Standing) (k : ℕ)
    → cause_of s k Abandon ≡ (if is_none (client_of s k).update then Some Idle else None)
