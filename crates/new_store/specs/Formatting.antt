-- What the making of a new store may leave, and what it comes to.
use Rattle.std.specs.Prelude.{◌≡◌, ◌⊎◌, ℕ, ◌<◌, ◌≤◌, List, Option, Some, None, Result, Ok, Err}
use Rattle.pair_store.specs.Blocks.{SameContents}
use Rattle.new_store.specs.declared.store.NewStore.{NewStore}
use Rattle.new_store.specs.declared.unformatted.Unformatted.{Unformatted}
use Rattle.new_store.specs.Layout.{HasNewStore, new_block}
use Rattle.new_store.specs.Sizes.{used_blocks}

-- all blocks that a new store of so many files does not use have their contents
abbrev pub SameBeyond : ℕ → (ℕ → Option (List ℕ)) → (ℕ → Option (List ℕ)) → Type 0
SameBeyond files f g = (k : ℕ) → used_blocks files ≤ k → g k ≡ f k

-- block 0, or a block that a new store of so many files does not use
abbrev pub IsOuter : ℕ → ℕ → Type 0
IsOuter files k = (k ≡ 0) ⊎ (used_blocks files ≤ k)

-- version pages and parts are written: all other blocks have their contents
abbrev pub IsFilling : ℕ → (ℕ → Option (List ℕ)) → (ℕ → Option (List ℕ)) → Type 0
IsFilling files f g = (k : ℕ) → IsOuter files k → g k ≡ f k

-- the blocks from block 1 up to one hold what they hold in a new store, by reads and after every
-- crash, and are settled
pub record AreWritten (s : NewStore) (end : ℕ) (content : ℕ → Option (List ℕ)) (settled settled_always : ℕ → Type 0) (left : (ℕ → Option (List ℕ)) → Type 0) : Type 0 where
  pub contents : (n : ℕ) → 0 < n → n < end → content n ≡ Some (new_block s n)
  pub settled_each : (n : ℕ) → 0 < n → n < end → settled n
  pub always_each : (n : ℕ) → 0 < n → n < end → settled_always n
  pub images : (f : ℕ → Option (List ℕ)) → left f → (n : ℕ) → 0 < n → n < end → f n ≡ Some (new_block s n)

-- all blocks of a new store are written, the table last: until it is there block 0 has its content
pub record IsFilled (s : NewStore) (f g : ℕ → Option (List ℕ)) : Type 0 where
  pub beyond : SameBeyond s.files f g
  pub table : (g 0 ≡ f 0) ⊎ HasNewStore s g

-- A store is formatted: all blocks are as they were, or block 0 is closed, or it is the new store.
-- So nothing else changes before block 0 is closed, and the table comes last.
pub record IsFormatting (s : NewStore) (f g : ℕ → Option (List ℕ)) : Type 0 where
  pub beyond : SameBeyond s.files f g
  pub stage : SameContents f g ⊎ ((g 0 ≡ None) ⊎ HasNewStore s g)

-- the drives that come back
abbrev pub drives_in : {V : Type 0} → Result V (Unformatted V) → V
drives_in (Ok drives) = drives
drives_in (Err e) = e.drives
