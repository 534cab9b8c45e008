-- What a call does to the bytes of a half, and what a crash may leave of them.
use Rattle.std.specs.Prelude.{◌≡◌, ◌⊎◌, ◌↔◌, ℕ, ◌+◌, ◌-◌, ◌^◌, ◌<◌, ◌≤◌, min, List, length, slice_index}
use Rattle.drives.specs.declared.device.Half.{Half}
use Rattle.drives.specs.Bytes.{IsBytes}

-- a half has these bytes from this offset on
abbrev pub HasAt : ℕ → List ℕ → List ℕ → Type 0
HasAt at bytes half = (i : ℕ) → i < length bytes → slice_index half (at + i) ≡ slice_index bytes i

-- an offset is outside the n bytes from this one on
abbrev pub IsOutside : ℕ → ℕ → ℕ → Type 0
IsOutside at n i = (i < at) ⊎ (at + n ≤ i)

-- any bytes in the range, and the same bytes outside it
pub record Torn (at n : ℕ) (before after : List ℕ) : Type 0 where
  pub size : length after ≡ length before
  pub outside : (i : ℕ) → IsOutside at n i → slice_index after i ≡ slice_index before i

-- a moment passes; at the clock's end none does
abbrev pub Ticks : ℕ → ℕ → Type 0
Ticks before after = after ≡ min (before + 1) (2 ^ 64 - 1)

-- a crash at a moment below this one may leave what it might have left before the call, no more and
-- no less
abbrev pub SamePast : ℕ → (Half → ℕ → List ℕ → Type 0) → (Half → ℕ → List ℕ → Type 0) → Type 0
SamePast end before after = (h : Half) (t : ℕ) (c : List ℕ) → t < end → after h t c ↔ before h t c

-- a crash leaves nothing that it might not have left before
abbrev pub LeavesNoMore : (List ℕ → Type 0) → (List ℕ → Type 0) → Type 0
LeavesNoMore before after = (c : List ℕ) → after c → before c

-- a crash may leave what it might have left before, no more and no less
abbrev pub LeavesSame : (List ℕ → Type 0) → (List ℕ → Type 0) → Type 0
LeavesSame before after = (c : List ℕ) → after c ↔ before c

-- a crash leaves what it might have left before, torn in the range
abbrev pub LeavesTorn : ℕ → ℕ → (List ℕ → Type 0) → (List ℕ → Type 0) → Type 0
LeavesTorn at n before after = (c : List ℕ) → after c → (d : List ℕ) × before d × Torn at n d c

-- and it may leave each of them that holds bytes
abbrev pub LeavesEachTorn : ℕ → ℕ → (List ℕ → Type 0) → (List ℕ → Type 0) → Type 0
LeavesEachTorn at n before after = (d c : List ℕ) → before d → Torn at n d c → IsBytes c → after c

-- a crash leaves these bytes and no others
abbrev pub LeavesOnly : List ℕ → (List ℕ → Type 0) → Type 0
LeavesOnly bytes left = (c : List ℕ) → left c → c ≡ bytes
