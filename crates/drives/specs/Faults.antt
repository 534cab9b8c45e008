-- When a call of a half may fail, and what its count of faults says then.
use Rattle.std.specs.Prelude.{◌≡◌, ◌⊎◌, ℕ, ◌-◌, ◌^◌, ◌≤◌, Result, OnOk, OnErr}
use Rattle.drives.specs.declared.device.Half.{Half}
use Rattle.afs_base.specs.Causes.{Rose}
use Rattle.afs_base.specs.declared.failed.Failed.{Failed}

-- the half failed: its count rose, or the clock stands at its end, where each call fails
abbrev pub HasFailed : ℕ → ℕ → ℕ → Type 0
HasFailed before count moment = Rose before count ⊎ (moment ≡ 2 ^ 64 - 1)

-- nothing failed on this half: its count of faults and the moment of its last fault are what they
-- were
abbrev pub SameFaults : (Half → ℕ) → (Half → ℕ) → (Half → ℕ) → (Half → ℕ) → Half → Type 0
SameFaults faults faults_after last last_after h = (faults_after h ≡ faults h) × (last_after h ≡ last h)

-- A half's count of faults and the moment of its last fault do not fall, and they move with a
-- failed call alone: the call fails only where the count rises, and its moment is then that of the
-- last fault.
pub record HasFault (before count last_before last moment : ℕ) {T : Type 0} (result : Result T Failed) : Type 0 where
  pub later : before ≤ count
  pub last_later : last_before ≤ last
  pub failed : OnErr result (HasFailed before count moment × (last ≡ moment))
  pub unfailed : OnOk result ((count ≡ before) × (last ≡ last_before))
