-- What a call over two halves leaves of their counts, whether it ends well or not.
use Rattle.std.specs.Prelude.{ℕ, ◌≤◌}
use Rattle.drives.specs.declared.device.Half.{Half}
use Rattle.drives.specs.Faults.{HasFailed}

-- no half's count of faults fell, and time did not go back
pub record Later {V : Type 0} (moment : V → ℕ) (faults : V → Half → ℕ) (before after : V) : Type 0 where
  pub time : moment before ≤ moment after
  pub counts : (h : Half) → faults before h ≤ faults after h

-- this half failed in between
abbrev pub HalfFailed : {V : Type 0} → (V → ℕ) → (V → Half → ℕ) → Half → V → V → Type 0
HalfFailed moment faults h before after = HasFailed (faults before h) (faults after h) (moment after)
