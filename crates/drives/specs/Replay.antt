-- What the calls of memory halves left, moment by moment.
use Rattle.std.specs.Prelude.{◌≡◌, ℕ, ◌+◌, ◌-◌, ◌^◌, ◌<◌, min, Bool, true, nat_le, if◌then◌else◌, List, [], ◌∷◌, ◌++◌, length, take, drop, fold, slice_index}
use Rattle.std.specs.List.{list_all}
use Rattle.drives.specs.declared.history.Span.{Span}
use Rattle.drives.specs.declared.call.What.{What}
use Rattle.drives.specs.declared.call.What.TheVariants.{Write, Tear, Sync}
use Rattle.drives.specs.declared.call.Call.{Call}
use Rattle.drives.specs.declared.call.Event.{Event}
use Rattle.drives.specs.declared.call.Event.TheVariants.{Made, Lost, Idle}
use Rattle.drives.specs.declared.call.Pick.{Pick}
use Rattle.drives.specs.declared.call.Pick.TheVariants.{Old, New, Fill}
use Rattle.drives.specs.Images.{IsUntouched}

-- a half at a moment: its bytes, those of its last sync, and the ranges written since then
pub record State : Type 0 where
  pub bytes : List ℕ
  pub synced : List ℕ
  pub spans : List Span

-- a half that nothing has happened to
abbrev pub start : List ℕ → State
start first = record { bytes = first; synced = first; spans = [] }

-- bytes with others over them from this offset on
abbrev pub overwritten : ℕ → List ℕ → List ℕ → List ℕ
overwritten at bytes half = take at half ++ bytes ++ drop (at + length bytes) half

-- a half after a failed write
abbrev pub torn : ℕ → ℕ → State → State
torn at len s = record { bytes = s.bytes; synced = s.synced; spans = record { at = at; len = len } ∷ s.spans }

-- a half after what a call did
abbrev pub done : What → State → State
done (Write at bytes) s = record { bytes = overwritten at bytes.items s.bytes; synced = s.synced; spans = record { at = at; len = length bytes.items } ∷ s.spans }
done (Tear at len) s = torn at len s
done Sync s = record { bytes = s.bytes; synced = s.bytes; spans = [] }

-- a half after a call, recorded or not
abbrev pub happened : Event → State → State
happened (Made what) s = done what.value s
happened (Lost at len) s = torn at len s
happened Idle s = s

-- a half after all calls, the newest first
abbrev pub state : List ℕ → List Event → State
state first [] = start first
state first (e ∷ events) = happened e (state first events)

-- the number of the call after so many; at the clock's end calls have its number
abbrev pub next_call : ℕ → ℕ
next_call count = min (count + 1) (2 ^ 64 - 1)

-- a half after the calls up to this moment
abbrev pub state_at : List ℕ → ℕ → List Event → State
state_at first t [] = start first
state_at first t (e ∷ events) = if nat_le (next_call (length events)) t then happened e (state_at first t events) else state_at first t events

-- the calls that were recorded, the oldest first
abbrev pub recorded : List Event → List Call
recorded [] = []
recorded (Made what ∷ events) = recorded events ++ record { when = next_call (length events); what = what.value } ∷ []
recorded (Lost at len ∷ events) = recorded events
recorded (Idle ∷ events) = recorded events

-- a half after one more recorded call, if that call was not after the moment
abbrev pub replay_step : ℕ → State → Call → State
replay_step t s call = if nat_le call.when t then done call.what s else s

-- a half after the recorded calls up to this moment
abbrev pub replayed : List ℕ → ℕ → List Call → State
replayed first t calls = fold (replay_step t) (start first) calls

-- what a call wrote lies within a half of this length
abbrev pub what_fits : ℕ → What → Bool
what_fits len (Write at bytes) = nat_le (at + length bytes.items) len
what_fits len (Tear at n) = nat_le (at + n) len
what_fits len Sync = true

abbrev pub calls_fit : ℕ → List Call → Bool
calls_fit len calls = list_all (λ call. what_fits len call.what) calls

-- this byte wherever a write since the last sync touched the half, and its bytes elsewhere
pub record IsFilled (byte : ℕ) (s : State) (image : List ℕ) : Type 0 where
  pub untouched : (i : ℕ) → IsUntouched s.spans i → slice_index image i ≡ slice_index s.bytes i
  pub touched : (i : ℕ) → i < length image → (IsUntouched s.spans i → ⊥) → slice_index image i ≡ byte

-- the image that a pick names: the bytes written, those of the last sync, or one byte wherever a
-- write touched
abbrev pub IsPicked : Pick → State → List ℕ → Type 0
IsPicked New s image = image ≡ s.bytes
IsPicked Old s image = image ≡ s.synced
IsPicked (Fill byte) s image = IsFilled byte s image

-- this writes these bytes from this offset on
abbrev pub IsWriteOf : ℕ → List ℕ → What → Type 0
IsWriteOf at bytes (Write at' bytes') = (at' ≡ at) × (bytes'.items ≡ bytes)
IsWriteOf at bytes (Tear at' len) = ⊥
IsWriteOf at bytes Sync = ⊥
