-- What a crash may leave of a memory half.
use Rattle.std.specs.Prelude.{◌↔◌, ℕ, ◌-◌, ◌^◌, ◌<◌, min, List, length}
use Rattle.drives.specs.declared.device.Half.{Half}
use Rattle.drives.specs.declared.call.Event.{Event}
use Rattle.drives.specs.declared.mem_half.MemHalf.{MemHalf}
use Rattle.drives.specs.declared.memory.MemDrives.{MemDrives}
use Rattle.drives.specs.Half.{one_of}
use Rattle.drives.specs.Images.{IsImage}
use Rattle.drives.specs.Replay.{State, state_at, replayed}

-- an image of a moment: the bytes of that moment, but anything in the ranges that were written
-- since the last sync
abbrev pub IsLeftBy : List ℕ → List Event → ℕ → List ℕ → Type 0
IsLeftBy first events t c = IsImage (state_at first t events).spans (state_at first t events).bytes c

abbrev pub IsMemLeft : MemHalf → ℕ → List ℕ → Type 0
IsMemLeft half t c = IsLeftBy half.first.items half.events t c

-- a half at a moment, as the record of its calls has it
abbrev pub recorded_at : MemHalf → ℕ → State
recorded_at half t = replayed half.first.items t half.calls.items

-- the moment after so many calls
abbrev pub moment_after : List Event → ℕ
moment_after events = min (length events) (2 ^ 64 - 1)

-- what a crash now may leave of a memory half
abbrev pub IsMemLeftNow : MemHalf → List ℕ → Type 0
IsMemLeftNow half c = IsMemLeft half (moment_after half.events) c

-- a crash at an earlier moment may leave what it might have left before a call
abbrev pub SameMemPast : MemHalf → MemHalf → Type 0
SameMemPast before after =
    (t : ℕ) (c : List ℕ) → t < moment_after after.events → IsMemLeft after t c ↔ IsMemLeft before t c

-- one of the halves
abbrev pub mem_half : MemDrives → Half → MemHalf
mem_half d h = one_of d.a d.b h

-- the numbers of the calls that fail
abbrev pub failing_calls : MemDrives → List ℕ
failing_calls d = d.failing.items
