use Rattle.std.specs.Prelude.{◌≡◌, ℕ, ◌+◌, ◌-◌, ◌^◌, ◌≤◌, min, Result, OnErr, OnOk}
use Rattle.afs_base.specs.declared.failed.Failed.{Failed}

-- A device, a source and a sink each count their faults. A failed call is one after which the count rose.

-- the count rose, or stands at its last value
abbrev pub Rose : ℕ → ℕ → Type 0
Rose before count = min (before + 1) (2 ^ 64 - 1) ≤ count

-- the count has not fallen: a failed call made it rise, and a call that did not fail left it as it was
pub record HasCause (before count : ℕ) {T : Type 0} (outcome : Result T Failed) : Type 0 where
  pub later : before ≤ count
  pub failed : OnErr outcome (Rose before count)
  pub unfailed : OnOk outcome (count ≡ before)
