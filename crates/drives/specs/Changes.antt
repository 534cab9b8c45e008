-- What a call, or many in a row, may do to what a crash leaves: one record for every kind of
-- content.
use Rattle.std.specs.Prelude.{◌≡◌, ◌⊎◌, ◌↔◌, ℕ, ◌-◌, ◌^◌, ◌<◌, ◌≤◌, List}
use Rattle.drives.specs.declared.device.Half.{Half}
use Rattle.drives.specs.declared.device.Half.TheVariants.{A, B}
use Rattle.drives.specs.Crash.{LeavesOnly}

-- Time went on from `before` to `after`; what a crash at an earlier moment may leave stays; and
-- whatever a crash at a moment between the two may leave comes by R from one thing that a crash at
-- `before` might have left.
pub record Changes {D X : Type 0} (moment : D → ℕ) (may_leave : D → ℕ → X → Type 0) (before after : D) (R : X → X → Type 0) : Type 0 where
  pub later : moment before ≤ moment after
  pub last : moment after ≤ 2 ^ 64 - 1
  -- where the clock stood still, it stands at its end, or nothing happened
  pub stuck : moment after ≡ moment before → (moment before ≡ 2 ^ 64 - 1) ⊎ ((x : X) → may_leave after (moment before) x ↔ may_leave before (moment before) x)
  pub past : (t : ℕ) (x : X) → t ≤ moment before → t < moment after → may_leave after t x ↔ may_leave before t x
  pub own : (t : ℕ) (x : X) → moment before ≤ t → t ≤ moment after → may_leave after t x → (y : X) × may_leave before (moment before) y × R y x

-- what a crash at this very moment may leave comes by R from one thing that a crash at `before`
-- might have left
abbrev pub LeavesNow : {D X : Type 0} → (D → ℕ) → (D → ℕ → X → Type 0) → D → D → (X → X → Type 0) → Type 0
LeavesNow {X = X} moment may_leave before after R = (x : X) → may_leave after (moment after) x → (y : X) × may_leave before (moment before) y × R y x

-- the bytes of both halves
pub record Halves : Type 0 where
  pub a : List ℕ
  pub b : List ℕ

-- one of them
abbrev pub bytes_of : Halves → Half → List ℕ
bytes_of x A = x.a
bytes_of x B = x.b

-- what reads of both give
abbrev pub halves_seen : {D : Type 0} → (D → Half → List ℕ) → D → Halves
halves_seen seen d = record { a = seen d A; b = seen d B }

-- what a crash at a moment may leave on both: each image of half A with each image of half B
abbrev pub HalvesLeft : {D : Type 0} → (D → Half → ℕ → List ℕ → Type 0) → D → ℕ → Halves → Type 0
HalvesLeft may_leave d t x = may_leave d A t x.a × may_leave d B t x.b

-- a relation for each half, as one relation on both
abbrev pub OnHalves : (Half → List ℕ → List ℕ → Type 0) → Halves → Halves → Type 0
OnHalves R x y = R A x.a y.a × R B x.b y.b

-- nothing is pending: a crash now leaves what reads give
abbrev pub IsAtRest : {D : Type 0} → (D → Half → List ℕ) → (D → ℕ) → (D → Half → ℕ → List ℕ → Type 0) → D → Type 0
IsAtRest seen moment may_leave d = (h : Half) → LeavesOnly (seen d h) (may_leave d h (moment d))

-- what a crash may leave, seen in another way: by a relation between the two ways of seeing it
abbrev pub ViewedLeft : {D X Y : Type 0} → (X → Y → Type 0) → (D → ℕ → X → Type 0) → D → ℕ → Y → Type 0
ViewedLeft {X = X} View may_leave d t y = (x : X) × may_leave d t x × View x y
