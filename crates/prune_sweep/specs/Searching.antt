-- Which blocks are open, that is, to be read before this version was read whole.
use Rattle.std.specs.Prelude.{◌≡◌, ◌⊎◌, ℕ, ◌<◌, ◌≤◌, true, false, List, length, Option, Some, None}
use Rattle.afs_base.specs.declared.limits.TheConstants.{MAX_BLOCKS, MIN_BLOCKS}
use Rattle.prune_sweep.specs.declared.mark.Mark.{Mark}
use Rattle.prune_sweep.specs.Marks.{mark_at, is_open}

-- no block is open
abbrev pub NoneOpen : List Mark → Type 0
NoneOpen marks = (n : ℕ) → is_open (mark_at marks n) ≡ false

-- this is the least block that is
pub record IsLeastOpen (marks : List Mark) (n : ℕ) : Type 0 where
  pub within : n < length marks
  pub here : is_open (mark_at marks n) ≡ true
  pub least : (k : ℕ) → k < n → is_open (mark_at marks k) ≡ false

-- the marks of 2 to 65,536 blocks, and all that are open lie in this range
pub record AreBetween (marks : List Mark) (from to : ℕ) : Type 0 where
  pub some : MIN_BLOCKS ≤ length marks
  pub most : length marks ≤ MAX_BLOCKS
  pub within : to ≤ length marks
  pub range : (n : ℕ) → is_open (mark_at marks n) ≡ true → (from ≤ n) × (n < to)

-- what is to be read next: the least open block, or the next version where none is open
abbrev pub IsNext : List Mark → Option ℕ → Option ℕ → Type 0
IsNext marks after None = NoneOpen marks × (after ≡ None)
IsNext marks after (Some n) = IsLeastOpen marks n ⊎ (NoneOpen marks × (after ≡ Some n))
