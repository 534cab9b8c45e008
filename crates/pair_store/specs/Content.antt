-- What a block is on two halves.
use Rattle.std.specs.Prelude.{◌≡◌, ◌≢◌, ◌⊎◌, ◌==◌, ℕ, ◌*◌, Option, Some, None, if◌then◌else◌, List, take, drop, slice_index}
use Rattle.drives.specs.Changes.{Halves, HalvesLeft, ViewedLeft}
use Rattle.drives.specs.declared.device.Half.{Half}

-- the first byte of a block on a half; 165 is open, every other byte is closed
abbrev pub gate : List ℕ → ℕ → ℕ
gate half n = slice_index half (1024 * n)

abbrev pub IsOpen : List ℕ → ℕ → Type 0
IsOpen half n = gate half n ≡ 165

-- the bytes of a block on a half
abbrev pub block_on : List ℕ → ℕ → List ℕ
block_on half n = take 1024 (drop (1024 * n) half)

-- the content of a block: half B's where it is open there, else half A's where it is open there,
-- else none
abbrev pub content_of : Halves → ℕ → Option (List ℕ)
content_of x n = if gate x.b n == 165 then Some (block_on x.b n) else (if gate x.a n == 165 then Some (block_on x.a n) else None)

-- a block is settled where it is open and equal on both halves, or closed on both
abbrev pub IsSettled : ℕ → Halves → Type 0
IsSettled n x = (IsOpen x.a n × IsOpen x.b n × (block_on x.a n ≡ block_on x.b n)) ⊎ ((gate x.a n ≢ 165) × (gate x.b n ≢ 165))

-- the contents of all blocks on two halves
abbrev pub HasContents : Halves → (ℕ → Option (List ℕ)) → Type 0
HasContents x f = (n : ℕ) → f n ≡ content_of x n

-- the contents that a crash at a moment may leave
abbrev pub ContentsLeft : {D : Type 0} → (D → Half → ℕ → List ℕ → Type 0) → D → ℕ → (ℕ → Option (List ℕ)) → Type 0
ContentsLeft may_leave = ViewedLeft HasContents (HalvesLeft may_leave)

-- a block is settled in each pair of halves that a crash at a moment may leave
abbrev pub IsSettledAlways : {D : Type 0} → (D → Half → ℕ → List ℕ → Type 0) → D → ℕ → ℕ → Type 0
IsSettledAlways may_leave d t n = (x : Halves) → HalvesLeft may_leave d t x → IsSettled n x
