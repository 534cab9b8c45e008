-- Halves that were just made.
use Rattle.std.specs.Prelude.{◌≡◌, ℕ, ◌*◌, ◌%◌, ◌≤◌, List, length, replicate, slice_index}
use Rattle.std.proofs.Common.{zero, suc, refl}
use Rattle.std.proofs.lemmas.List.{length-replicate}
use Rattle.drives.specs.declared.device.Half.{Half}
use Rattle.drives.specs.declared.device.Half.TheVariants.{A, B}
use Rattle.drives.specs.Changes.{IsAtRest}

-- a half may have this many bytes: 1 to 65536 blocks of 1024
pub record IsHalfLength (n : ℕ) : Type 0 where
  pub blocks : n % 1024 ≡ 0
  pub some : 1024 ≤ n
  pub most : n ≤ 1024 * 65536

-- halves of these bytes at moment 0, with nothing pending and no fault
pub record IsNew {D : Type 0} (size moment : D → ℕ) (seen : D → Half → List ℕ) (may_leave : D → Half → ℕ → List ℕ → Type 0) (faults last_fault : D → Half → ℕ) (a b : List ℕ) (d : D) : Type 0 where
  pub whole : 1024 * size d ≡ length a
  pub start : moment d ≡ 0
  pub half_a : seen d A ≡ a
  pub half_b : seen d B ≡ b
  pub rest : IsAtRest seen moment may_leave d
  pub unfailed : (h : Half) → faults d h ≡ 0
  pub never_failed : (h : Half) → last_fault d h ≡ 0

-- a half of so many blocks of zeros
unfoldable pub blank_bytes : ℕ → List ℕ
blank_bytes blocks = replicate (1024 * blocks) 0

zeros_at : (n i : ℕ) → slice_index (replicate n 0) i ≡ 0
zeros_at zero i = refl
zeros_at (suc n) zero = refl
zeros_at (suc n) (suc i) = zeros_at n i

pub length-blank_bytes : (blocks : ℕ) → length (blank_bytes blocks) ≡ 1024 * blocks
unfolding blank_bytes
length-blank_bytes blocks = length-replicate (1024 * blocks) 0

pub blank_bytes-at : (blocks i : ℕ) → slice_index (blank_bytes blocks) i ≡ 0
unfolding blank_bytes
blank_bytes-at blocks i = zeros_at (1024 * blocks) i
