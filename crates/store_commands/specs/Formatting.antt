-- How `format` ends.
use Rattle.std.specs.Prelude.{◌≡◌, ℕ, List, Option, Result, Ok}
use Rattle.std.specs.Io.KnownBytes.{Appends}
use Rattle.drives.specs.declared.device.Half.{Half}
use Rattle.script_text.specs.Front.{AppendsFront}
use Rattle.store_model.specs.Walk.{Refused}
use Rattle.tree_model.specs.States.{State}
use Rattle.new_store.specs.declared.store.NewStore.{NewStore}
use Rattle.new_store.specs.Fresh.{new_state}
use Rattle.endings.specs.Printing.{Prints}
use Rattle.endings.specs.Texts.{drive_text, memory_text}
use Rattle.endings.specs.declared.status.Status.{Status}
use Rattle.endings.specs.declared.status.Status.TheVariants.{Success, Usage, BadScript, DriveFault, BadStore, SinkFault, SourceFault, Memory}
use Rattle.store_commands.specs.Texts.{new_files_text}

-- How the making of a new store ends, by its status: over halves that hold `after`, where they tell it, of which some have `failed`, and a
-- sink that had `old` and has `new` written.
abbrev pub FormatEnds : NewStore → Type 0 → Result State Refused → (Half → Type 0) → Option (List ℕ) → Option (List ℕ) → Type 0 → Status → Type 0
FormatEnds store tells after failed old new sink_rose Success = (tells → after ≡ Ok (new_state store)) × Appends old new (new_files_text store.files)
FormatEnds store tells after failed old new sink_rose Usage = ⊥
FormatEnds store tells after failed old new sink_rose BadScript = ⊥
FormatEnds store tells after failed old new sink_rose DriveFault = (half : Half) × failed half × Prints old new sink_rose (drive_text half)
FormatEnds store tells after failed old new sink_rose BadStore = ⊥
FormatEnds store tells after failed old new sink_rose SinkFault =
    (tells → after ≡ Ok (new_state store)) × AppendsFront old new (new_files_text store.files) × sink_rose
FormatEnds store tells after failed old new sink_rose SourceFault = ⊥
FormatEnds store tells after failed old new sink_rose Memory = Prints old new sink_rose memory_text

-- the new store was made
abbrev pub IsMade : Status → Type 0
IsMade Success = Unit {0}
IsMade Usage = ⊥
IsMade BadScript = ⊥
IsMade DriveFault = ⊥
IsMade BadStore = ⊥
IsMade SinkFault = Unit {0}
IsMade SourceFault = ⊥
IsMade Memory = ⊥
