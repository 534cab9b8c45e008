-- What a command that opens a store, and changes no file, does to the halves, and how it ends where the store is not opened.
use Rattle.std.specs.Prelude.{◌≡◌, ℕ, List, Option, Result}
use Rattle.drives.specs.declared.device.Drives.{Ghosts as Device}
use Rattle.drives.specs.declared.device.Half.{Half}
use Rattle.drives.specs.Changes.{Changes, IsAtRest, halves_seen}
use Rattle.pair_store.specs.Content.{ContentsLeft, content_of}
use Rattle.pair_store.specs.Faults.{LaterFaults}
use Rattle.recovery.specs.Opening.{IsFailed, IsNoStore, SameFound}
use Rattle.store_model.specs.Found.{found}
use Rattle.store_model.specs.Walk.{Refused}
use Rattle.tree_model.specs.States.{State}
use Rattle.recovery.specs.declared.refused.OpenRefused.{OpenRefused}
use Rattle.recovery.specs.declared.refused.OpenRefused.TheVariants.{ReadFault, WriteFault, BadStore as NoStore, Memory as NoMemory}
use Rattle.endings.specs.Printing.{HaltEnds, Prints}
use Rattle.endings.specs.Texts.{bad_store_text, drive_text, memory_text}
use Rattle.endings.specs.declared.status.Status.{Status}
use Rattle.endings.specs.declared.status.Status.TheVariants.{DriveFault, BadStore, Memory}

-- what the blocks of two halves hold
abbrev pub contents_on : {V : Type 0} → Device V → V → ℕ → Option (List ℕ)
contents_on v halves = content_of (halves_seen v.seen halves)

-- the files that are found on them
abbrev pub files_on : {V : Type 0} → Device V → V → Result State Refused
files_on v halves = found (contents_on v halves) (v.size halves)

-- nothing is pending on them
abbrev pub AreAtRest : {V : Type 0} → Device V → V → Type 0
AreAtRest v halves = IsAtRest v.seen v.moment v.may_leave halves

-- from `before` to `after` this half failed and stopped an opening, or what was done with the store that was opened
abbrev pub HasStopped : {V : Type 0} → Device V → V → V → Half → Type 0
HasStopped v before after =
    IsFailed (v.faults before) (v.faults after) (v.last_fault after) (v.moment after) (v.tells → IsNoStore (contents_on v before) (v.size before))

-- From `before` to `after` a store was opened, or was to be. The files that are found stay the same, whatever was pending; and where nothing was
-- pending before, so they do in all that a crash may leave.
pub record OnlyOpened {V : Type 0} (v : Device V) (before after : V) : Type 0 where
  pub same : v.tells → SameFound (v.size before) (contents_on v before) (contents_on v after)
  pub images : v.tells → AreAtRest v before → Changes v.moment (ContentsLeft v.may_leave) before after (SameFound (v.size before))
  pub later : LaterFaults (v.faults before) (v.faults after) (v.last_fault before) (v.last_fault after)
  pub size_same : v.size after ≡ v.size before

-- how a command ends over a store that was not opened, for this cause
abbrev pub RefusedEnds : Option (List ℕ) → Option (List ℕ) → Type 0 → OpenRefused → Status → Type 0
RefusedEnds old new sink_rose (ReadFault half) status = (status ≡ DriveFault) × Prints old new sink_rose (drive_text half)
RefusedEnds old new sink_rose (WriteFault half) status = (status ≡ DriveFault) × Prints old new sink_rose (drive_text half)
RefusedEnds old new sink_rose (NoStore block why) status = HaltEnds old new sink_rose (bad_store_text (record { block = block; why = why })) BadStore status
RefusedEnds old new sink_rose NoMemory status = (status ≡ Memory) × Prints old new sink_rose memory_text
