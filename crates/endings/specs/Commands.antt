-- How a command ends that opens a store and prints something of it.
use Rattle.std.specs.Prelude.{◌≡◌, ◌⊎◌, ℕ, List, Option, Result, Ok, Err, IsOk}
use Rattle.std.specs.Io.KnownBytes.{Appends}
use Rattle.drives.specs.declared.device.Half.{Half}
use Rattle.script_text.specs.Front.{AppendsFront}
use Rattle.store_model.specs.Walk.{Refused}
use Rattle.tree_model.specs.States.{State}
use Rattle.endings.specs.Printing.{Prints}
use Rattle.endings.specs.Texts.{bad_store_text, drive_text, memory_text}
use Rattle.endings.specs.declared.status.Status.{Status}
use Rattle.endings.specs.declared.status.Status.TheVariants.{Success, Usage, BadScript, DriveFault, BadStore, SinkFault, SourceFault, Memory}

-- How a command ends, by its status: over halves that held `before`, where they tell it, of which some have `failed`, and a sink that had
-- `old` and has `new` written. It is to print the text of the state that is found.
abbrev pub CommandEnds : Type 0 → Result State Refused → (Half → Type 0) → (State → List ℕ) → Option (List ℕ) → Option (List ℕ) → Type 0 → Status → Type 0
CommandEnds tells before failed text old new sink_rose Success = (state : State) × (tells → before ≡ Ok state) × Appends old new (text state)
CommandEnds tells before failed text old new sink_rose Usage = ⊥
CommandEnds tells before failed text old new sink_rose BadScript = ⊥
CommandEnds tells before failed text old new sink_rose DriveFault = (half : Half) × failed half × Prints old new sink_rose (drive_text half)
CommandEnds tells before failed text old new sink_rose BadStore = (cause : Refused) × (tells → before ≡ Err cause) × Prints old new sink_rose (bad_store_text cause)
CommandEnds tells before failed text old new sink_rose SinkFault = (state : State) × (tells → before ≡ Ok state) × AppendsFront old new (text state) × sink_rose
CommandEnds tells before failed text old new sink_rose SourceFault = ⊥
CommandEnds tells before failed text old new sink_rose Memory =
    Prints old new sink_rose memory_text ⊎ ((state : State) × (tells → before ≡ Ok state) × AppendsFront old new (text state))

-- a store was found, and nothing failed
pub record NothingFailed (before : Result State Refused) (failed : Half → Type 0) (sink_rose : Type 0) : Type 0 where
  pub lawful : IsOk before
  pub halves : (h : Half) → failed h → ⊥
  pub sink : sink_rose → ⊥
