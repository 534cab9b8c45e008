-- What crashes leave of openings, one after the other.
use Rattle.std.specs.Prelude.{◌≡◌, ℕ, zero, suc, ◌≤◌, List, Option}
use Rattle.drives.specs.declared.device.Drives.{Ghosts as Device}
use Rattle.drives.specs.Changes.{Changes}
use Rattle.pair_store.specs.Blocks.{SameContents}
use Rattle.pair_store.specs.Content.{ContentsLeft}
use Rattle.store_model.specs.Found.{found}
use Rattle.recovery.specs.Halves.{AtRest, contents}
use Rattle.recovery.specs.Opening.{SameFound}

-- Halves with the first contents were opened, where nothing was pending, and a crash at some moment
-- of the call may leave the second ones. What is asked of the opening is what it says of images.
pub record LeavesOpening {V : Type 0} (v : Device V) (most : ℕ)
    (f g : ℕ → Option (List ℕ)) : Type 0 where
  pub before : V
  pub after : V
  pub held : SameContents (contents v before) f
  pub rest : AtRest v before
  pub images : Changes v.moment (ContentsLeft v.may_leave) before after (SameFound most)
  pub crash : ℕ
  pub begun : v.moment before ≤ crash
  pub within : crash ≤ v.moment after
  pub left : ContentsLeft v.may_leave after crash g

-- so many openings were cut off one after the other, each one begun on what was left of the one
-- before
abbrev pub LeavesOpenings : {V : Type 0} → Device V → ℕ → ℕ → (ℕ → Option (List ℕ))
    → (ℕ → Option (List ℕ)) → Type 0
LeavesOpenings v most zero f g = SameContents f g
LeavesOpenings v most (suc times) f g = (h : ℕ → Option (List ℕ)) × LeavesOpening v most f h
    × LeavesOpenings v most times h g

-- Opening again on what a crash left of an opening, any number of times, finds the same files; or
-- none, for the same cause.
abbrev pub ReopeningFindsTheSame : {V : Type 0} → Device V → Type 0
ReopeningFindsTheSame v = (most times : ℕ) (f g : ℕ → Option (List ℕ))
    → LeavesOpenings v most times f g → found g most ≡ found f most
