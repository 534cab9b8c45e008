-- What reads do to a store of blocks: no content changes, and what a crash may leave is what it might have left before.
use Rattle.std.specs.Prelude.{◌≡◌, ◌==◌, ◌↔◌, ℕ, ◌≤◌, Bool, not, None}
use Rattle.drives.specs.declared.device.Half.{Half}
use Rattle.drives.specs.Changes.{Changes}
use Rattle.pair_store.specs.declared.store.Blocks.{Ghosts}
use Rattle.pair_store.specs.Blocks.{SameContents}
use Rattle.pair_store.specs.Faults.{IsUnread}

-- from `before` to `after` blocks were read, and nothing was written
pub record OnlyRead {D : Type 0} (b : Ghosts D) (before after : D) : Type 0 where
  pub same : b.tells → SameContents (b.content before) (b.content after)
  pub kept : b.tells → (k : ℕ) → b.settled after k ↔ b.settled before k
  pub kept_always : (k : ℕ) → b.settled_always after k ↔ b.settled_always before k
  pub images : Changes b.moment b.may_leave before after SameContents
  pub rest : b.tells → b.rest before → b.rest after
  pub later : (h : Half) → (b.faults before h ≤ b.faults after h) × (b.last_fault before h ≤ b.last_fault after h)
  pub size_same : b.size after ≡ b.size before

-- A half failed in a read since `before`, and no open half was read in its place: that was the last call of a device; or it was half B, and half A
-- was read after it, once, and found closed, so the block has no content.
abbrev pub IsUnreadSince : {D : Type 0} → Ghosts D → D → D → Half → Type 0
IsUnreadSince b before after h =
    (n : ℕ) × IsUnread (b.faults before) (b.faults after) (b.last_fault after) (b.moment after) (b.tells → b.settled before n → b.content before n ≡ None) h

-- the last fault of the half is not of the last call of a device
abbrev pub is_past : {D : Type 0} → Ghosts D → D → Half → Bool
is_past b store h = not (b.last_fault store h == b.moment store)

-- a store that is read, and as what it was given
pub record ReadingValue (D : Type 0) : Type 0 where
  pub store : D
  pub began : D
