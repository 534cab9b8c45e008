-- What one call shows in an image that is being made.
use Rattle.std.specs.Prelude.{◌≡◌, ℕ, ◌+◌, ◌<◌, ◌≤◌, List, length, slice_index}
use Rattle.drives.specs.declared.call.Pick.{Pick}
use Rattle.drives.specs.declared.call.Pick.TheVariants.{Old, New, Fill}
use Rattle.drives.specs.Crash.{Torn}
use Rattle.drives.specs.Images.{IsUntouched}
use Rattle.drives.specs.Replay.{State, overwritten, IsPicked}

-- one byte over a range, and the same bytes outside it
pub record IsFilledIn (byte at n : ℕ) (before after : List ℕ) : Type 0 where
  pub range : Torn at n before after
  pub filled : (i : ℕ) → at ≤ i → i < at + n → slice_index after i ≡ byte

-- a write shows its bytes, nothing, or one byte
abbrev pub Touches : Pick → ℕ → List ℕ → List ℕ → List ℕ → Type 0
Touches New at bytes before after = after ≡ overwritten at bytes before
Touches Old at bytes before after = after ≡ before
Touches (Fill byte) at bytes before after = IsFilledIn byte at (length bytes) before after

-- a failed write shows nothing, or one byte
abbrev pub Tears : Pick → ℕ → ℕ → List ℕ → List ℕ → Type 0
Tears New at n before after = after ≡ before
Tears Old at n before after = after ≡ before
Tears (Fill byte) at n before after = IsFilledIn byte at n before after

-- the bytes and the image of a half in this state
pub record IsReplayed (pick : Pick) (s : State) (bytes image : List ℕ) : Type 0 where
  pub same : s.bytes ≡ bytes
  pub size : length image ≡ length bytes
  pub untouched : (i : ℕ) → IsUntouched s.spans i → slice_index image i ≡ slice_index bytes i
  pub picked : IsPicked pick s image
