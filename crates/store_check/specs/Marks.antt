-- A map of blocks that keeps block 0 and the places that were found, and no other block.
use Rattle.std.specs.Prelude.{◌≡◌, ◌==◌, ℕ, ◌<◌, Bool, ◌||◌, nat_eq, List, length, Some, slice_get, if◌then◌else◌}
use Rattle.std.specs.List.{list_any}
use Rattle.block_map.specs.declared.states.BlockState.{BlockState}
use Rattle.block_map.specs.declared.states.BlockState.TheVariants.{Free, Kept}

-- block 0 and each place is kept
abbrev pub is_kept : List ℕ → ℕ → Bool
is_kept places k = k == 0 || list_any (nat_eq k) places

-- kept or free
abbrev pub mark_of : Bool → BlockState
mark_of kept = if kept then Kept else Free

-- block 0 and the places are kept, and all other blocks are free
abbrev pub Marks : List ℕ → List BlockState → Type 0
Marks places states = (k : ℕ) → k < length states → slice_get states k ≡ Some (mark_of (is_kept places k))

-- so many blocks, and which of them were found
pub record PlacesValue : Type 0 where
  pub count : ℕ
  pub list : List ℕ
