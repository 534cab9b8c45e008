-- What a write of a block on one half may leave.
use Rattle.std.specs.Prelude.{◌≡◌, ◌≢◌, ◌⊎◌, ◌↔◌, ℕ, ◌+◌, ◌*◌, ◌<◌, List, slice_index}
use Rattle.drives.specs.declared.device.Half.{Half}
use Rattle.drives.specs.declared.device.Half.TheVariants.{A, B}
use Rattle.drives.specs.Crash.{Torn}
use Rattle.pair_store.specs.Content.{gate, IsOpen}

-- a relation on one half, and the other as it was
abbrev pub At : Half → (List ℕ → List ℕ → Type 0) → Half → List ℕ → List ℕ → Type 0
At A R A x y = R x y
At A R B x y = y ≡ x
At B R A x y = y ≡ x
At B R B x y = R x y

-- both halves as they were
abbrev pub Kept : Half → List ℕ → List ℕ → Type 0
Kept half x y = y ≡ x

-- all bytes outside a block as they were
abbrev pub SameElsewhere : ℕ → List ℕ → List ℕ → Type 0
SameElsewhere n x y = Torn (1024 * n) 1024 x y

-- a block's bytes as they were
abbrev pub SameBlock : ℕ → List ℕ → List ℕ → Type 0
SameBlock n x y = (i : ℕ) → i < 1024 → slice_index y (1024 * n + i) ≡ slice_index x (1024 * n + i)

-- a block has these bytes
abbrev pub HasBody : ℕ → List ℕ → List ℕ → Type 0
HasBody n body y = (i : ℕ) → i < 1024 → slice_index y (1024 * n + i) ≡ slice_index body i

-- while a block is written it is closed, or as it was, or has its new bytes
abbrev pub IsStage : ℕ → List ℕ → List ℕ → List ℕ → Type 0
IsStage n body x y = (gate y n ≢ 165) ⊎ (SameBlock n x y ⊎ HasBody n body y)

-- the gate that is read is that of each image
abbrev pub IsKnownGate : {D : Type 0} → (D → Half → List ℕ) → (D → ℕ) → (D → Half → ℕ → List ℕ → Type 0) → D → Half → ℕ → Type 0
IsKnownGate seen moment may_leave d h n = (c : List ℕ) → may_leave d h (moment d) c → IsOpen c n ↔ IsOpen (seen d h) n
