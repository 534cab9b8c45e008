-- Runs of blocks that need no mending.
use Rattle.std.specs.Prelude.{◌≡◌, ◌≢◌, ◌⊎◌, ℕ, ◌+◌, ◌<◌, ◌≤◌, List, slice_index}
use Rattle.drives.specs.Changes.{Halves}
use Rattle.pair_store.specs.Content.{IsSettled}

-- these bytes of a block on half A and on half B settle it: it is open and equal, or closed on both
abbrev pub AreSettling : List ℕ → List ℕ → Type 0
AreSettling a b =
    ((slice_index a 0 ≡ 165) × (slice_index b 0 ≡ 165) × (a ≡ b))
    ⊎ ((slice_index a 0 ≢ 165) × (slice_index b 0 ≢ 165))

-- of so many blocks, from the first one on, k are settled before one that is not
pub record IsSettledRun (first count k : ℕ) (x : Halves) : Type 0 where
  pub most : k ≤ count
  pub settled : (n : ℕ) → first ≤ n → n < first + k → IsSettled n x
  pub ends : k < count → IsSettled (first + k) x → ⊥
