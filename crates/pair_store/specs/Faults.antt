-- When a call on a block may answer that a half failed.
use Rattle.std.specs.Prelude.{◌≡◌, ◌⊎◌, ℕ, ◌+◌, ◌-◌, ◌^◌, ◌≤◌, min}
use Rattle.drives.specs.declared.device.Half.{Half}
use Rattle.drives.specs.declared.device.Half.TheVariants.{B}
use Rattle.drives.specs.Faults.{HasFailed}

-- the half failed in this call, and no call of a device came after that
pub record IsStopped (faults faults_after last_after : Half → ℕ) (moment_after : ℕ) (h : Half) : Type 0 where
  pub failed : HasFailed (faults h) (faults_after h) (last_after h)
  pub last : last_after h ≡ moment_after

-- The half failed in a read, and no open half was read in its place: it was the last call of a
-- device; or it was half B, after which half A was read, once, and found closed.
pub record IsUnread (faults faults_after last_after : Half → ℕ) (moment_after : ℕ) (Empty : Type 0) (h : Half) : Type 0 where
  pub failed : HasFailed (faults h) (faults_after h) (last_after h)
  pub last : (last_after h ≡ moment_after) ⊎ ((h ≡ B) × (moment_after ≡ min (last_after B + 1) (2 ^ 64 - 1)) × Empty)

-- no half's count of faults fell, and no moment of a last fault
abbrev pub LaterFaults : (Half → ℕ) → (Half → ℕ) → (Half → ℕ) → (Half → ℕ) → Type 0
LaterFaults faults faults_after last last_after = (h : Half) → (faults h ≤ faults_after h) × (last h ≤ last_after h)
