-- What a read of a block gives.
use Rattle.std.specs.Prelude.{◌≡◌, ◌≢◌, ◌⊎◌, ℕ, Bool, true, false, Some, List, Result, IsErrOf, OnOk}
use Rattle.drives.specs.declared.device.Half.{Half}
use Rattle.drives.specs.declared.device.Half.TheVariants.{B}
use Rattle.drives.specs.Half.{other}
use Rattle.drives.specs.Changes.{Halves, bytes_of}
use Rattle.pair_store.specs.declared.fault.PairFault.{PairFault}
use Rattle.pair_store.specs.declared.fault.PairFault.TheVariants.{ReadFault}
use Rattle.pair_store.specs.Content.{IsOpen, block_on, content_of, gate}

-- it has content, which was read, or half B failed and half A's bytes were read in its place; or
-- both gates are closed
abbrev pub IsFound : Bool → ℕ → List ℕ → Halves → Type 0 → Type 0
IsFound true n bytes x failed = (content_of x n ≡ Some bytes) ⊎ (failed × IsOpen x.a n × (block_on x.a n ≡ bytes))
IsFound false n bytes x failed = (gate x.a n ≢ 165) × (gate x.b n ≢ 165)

-- What is said of a read of any block, settled or not, with the halves that failed in it: it gives
-- half B's bytes where they are open, and half A's where half B is closed or failed; and it gives
-- up for a half only where the other one failed too, or is closed.
pub record IsPairRead (n : ℕ) (x : Halves) (failed : Half → Type 0) (result : Result (Unit {0}) PairFault) (bytes : List ℕ) : Type 0 where
  pub found : OnOk result (IsFound true n bytes x (failed B))
  pub instead : (h : Half) → IsErrOf result (ReadFault h) → failed (other h) ⊎ (gate (bytes_of x (other h)) n ≢ 165)
