-- Numbers and runs of bytes in a block.
use Rattle.std.specs.Prelude.{ℕ, ◌<◌, zero, suc, Option, Some, None, List, [], ◌∷◌, take, drop, replicate, slice_index, nat_eq, if◌then◌else◌}
use Rattle.std.specs.Int.{Width, byte_len, to_be_bytes, from_be_bytes}

-- a number as bytes, the highest first
unfoldable pub big_endian : Width → ℕ → List ℕ
big_endian w n = to_be_bytes w n

-- so many bytes from a place on
abbrev pub field : ℕ → ℕ → List ℕ → List ℕ
field at len bytes = take len (drop at bytes)

-- the number that stands at a place, its highest byte first
unfoldable pub number_at : Width → ℕ → List ℕ → ℕ
number_at w at bytes = from_be_bytes w (field at (byte_len w) bytes)

-- so many bytes that are 0
unfoldable pub zeros : ℕ → List ℕ
zeros n = replicate n 0

-- a list cut into so many pieces of one length
unfoldable pub pieces : ℕ → ℕ → List ℕ → List (List ℕ)
pieces len zero bytes = []
pieces len (suc n) bytes = take len bytes ∷ pieces len n (drop len bytes)

-- each element is a byte
abbrev pub IsBytes : List ℕ → Type 0
IsBytes bytes = (i : ℕ) → slice_index bytes i < 256

-- a block number as it is written: 0 where there is none
abbrev pub or_zero : Option ℕ → ℕ
or_zero None = 0
or_zero (Some n) = n

-- a block number as it is read: none where it is 0
abbrev pub or_none : ℕ → Option ℕ
or_none n = if nat_eq n 0 then None else Some n
