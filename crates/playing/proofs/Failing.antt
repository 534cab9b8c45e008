-- How a half failed, seen from an earlier beginning, and where less is known of the store.
use Rattle.std.proofs.Common.{◌≡◌, ◌⊎◌, inl, inr, ℕ, ◌+◌, ◌-◌, ◌^◌, ◌≤◌, min, arith}
use Rattle.drives.specs.declared.device.Half.{Half}
use Rattle.drives.specs.Faults.{HasFailed}
use Rattle.recovery.specs.Opening.{IsFailed}

pub count_earlier : (a b n m : ℕ) → a ≤ b → HasFailed b n m → HasFailed a n m
count_earlier a b n m less (inl rose) = inl (omega (arith, less, rose))
count_earlier a b n m less (inr ended) = inr ended

pub failed_earlier : (faults0 faults faults' last : Half → ℕ) (moment : ℕ) (None None' : Type 0)
    (h : Half) → faults0 h ≤ faults h → (None → None')
    → IsFailed faults faults' last moment None h → IsFailed faults0 faults' last moment None' h
failed_earlier faults0 faults faults' last moment None None' h less weaker failed = record {
  failed = count_earlier (faults0 h) (faults h) (faults' h) (last h) less failed.failed;
  last = of failed.last;
}
  where
    of : (last h ≡ moment) ⊎ ((moment ≡ min (last h + 1) (2 ^ 64 - 1)) × None)
        → (last h ≡ moment) ⊎ ((moment ≡ min (last h + 1) (2 ^ 64 - 1)) × None')
    of (inl same) = inl same
    of (inr next) = inr (next.0, weaker next.1)
