-- What mending does to a store of blocks: no content changes, wherever it ends and wherever a crash
-- falls.
use Rattle.std.specs.Prelude.{◌≡◌, ℕ, ◌<◌, ◌≤◌, Option, Some, None, List}
use Rattle.std.specs.Option.{option_and_then}
use Rattle.page_codec.specs.Values.{RootValue}
use Rattle.page_codec.specs.TableReading.{root_of}
use Rattle.store_model.specs.Laws.{read_of}
use Rattle.drives.specs.declared.device.Half.{Half}
use Rattle.drives.specs.Changes.{Changes}
use Rattle.pair_store.specs.Blocks.{SameContents}
use Rattle.pair_store.specs.declared.store.Blocks.{Ghosts}
use Rattle.recovery.specs.Aside.{SameAside}

-- From `before` to `after` some of these blocks were mended. What is said of the contents of all
-- blocks after a crash holds where nothing was pending before.
pub record OnlyMended {D : Type 0} (b : Ghosts D) (Written : ℕ → Type 0)
    (before after : D) : Type 0 where
  pub same : b.tells → SameContents (b.content before) (b.content after)
  pub images : b.tells → b.rest before → Changes b.moment b.may_leave before after SameContents
  pub images_others : Changes b.moment b.may_leave before after (SameAside Written)
  pub later : (h : Half) → (b.faults before h ≤ b.faults after h)
      × (b.last_fault before h ≤ b.last_fault after h)
  pub size_same : b.size after ≡ b.size before

-- a block from this one up to that one
abbrev pub IsWithin : ℕ → ℕ → ℕ → Type 0
IsWithin first end n = (first ≤ n) × (n < end)

-- how many blocks have to be settled before a store is checked: all that block 0 tells of, or block
-- 0 alone where it is no table
abbrev pub blocks_in_table : Option RootValue → ℕ
blocks_in_table None = 1
blocks_in_table (Some root) = root.blocks

-- the table that a block holds, where it holds one
abbrev pub table_in : Option (List ℕ) → Option RootValue
table_in content = option_and_then (λ bytes. read_of (root_of bytes)) content

-- all blocks but block 0 from this one on have their contents
abbrev pub SameFrom : ℕ → (ℕ → Option (List ℕ)) → (ℕ → Option (List ℕ)) → Type 0
SameFrom first f g = (n : ℕ) → 1 ≤ n → first ≤ n → g n ≡ f n
