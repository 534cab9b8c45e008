-- What a crash may leave of a half: its bytes, but anything in the ranges that were written since
-- the last sync.
use Rattle.std.specs.Prelude.{◌≡◌, ℕ, List, [], ◌∷◌, length, slice_index}
use Rattle.drives.specs.declared.history.Span.{Span}
use Rattle.drives.specs.Bytes.{IsBytes}
use Rattle.drives.specs.Crash.{IsOutside}

-- no range touches this offset
abbrev pub IsUntouched : List Span → ℕ → Type 0
IsUntouched [] i = Unit {0}
IsUntouched (s ∷ spans) i = IsOutside s.at s.len i × IsUntouched spans i

-- the bytes of a half, but any bytes in the ranges
pub record IsImage (spans : List Span) (bytes c : List ℕ) : Type 0 where
  pub size : length c ≡ length bytes
  pub untouched : (i : ℕ) → IsUntouched spans i → slice_index c i ≡ slice_index bytes i
  pub fits : IsBytes c
