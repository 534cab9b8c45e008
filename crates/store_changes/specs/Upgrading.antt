-- A table of format 1 made one of format 2.
use Rattle.std.specs.Prelude.{◌≡◌, ◌≢◌, ℕ, ◌<◌, ◌≤◌, nat_eq, false, List, [], ◌++◌, replicate, Option, Some, Ok, slice_get, ◌⊎◌}
use Rattle.std.specs.List.{list_any}
use Rattle.tree_model.specs.States.{State, File}
use Rattle.page_codec.specs.Values.{EntryValue, RootValue}
use Rattle.page_codec.specs.Blank.{no_entry, no_entries, no_parts}
use Rattle.store_model.specs.Found.{LaidStore, state_in, laid}
use Rattle.store_model.specs.NewStores.{root_in_block}
use Rattle.store_changes.specs.Writes.{Content, part_in_block, put_at}
use Rattle.store_changes.specs.Stands.{Stands, IsPlace}

-- the file of an entry where no file ever was
abbrev pub no_file : File
no_file = record { generation = 0; secret = no_entry.secret; versions = [] }

-- the state in format 2, with 3,972 empty entries more
abbrev pub state_widened : State → State
state_widened state = record state { format = 2; files = state.files ++ replicate 3972 no_file }

-- block 0 in format 2, without and with part 0
abbrev pub widened : List (Option ℕ) → RootValue → RootValue
widened parts root =
    record root { format = 2; parts = parts; first = no_entries 60 }

-- no file ever was: each entry is the empty one
abbrev pub IsUnused : RootValue → Type 0
IsUnused root = (k : ℕ) (entry : EntryValue) → slice_get root.first k ≡ Some entry
    → entry ≡ no_entry

-- Where no file ever was, one write of block 0 upgrades the table.
abbrev pub UpgradingWidens : Type 0
UpgradingWidens =
    (c d : Content) (most : ℕ) (store : LaidStore) (places : List ℕ)
    → laid c most [] ≡ Ok (store, places)
    → store.root.format ≡ 1 → IsUnused store.root
    → root_in_block d 0 ≡ Some (widened no_parts store.root) → ((n : ℕ) → n ≢ 0 → c n ≡ d n)
    → Stands d most store (λ _. Unit {0}) (state_widened (state_in store)) (IsPlace places)

-- Else a block that is no place holds part 0, with the sixty entries and three empty ones, and
-- block 0 was written and names it: then that block is a place too.
abbrev pub UpgradingWidensPart : Type 0
UpgradingWidensPart =
    (c d : Content) (most : ℕ) (store : LaidStore) (places : List ℕ)
    → laid c most [] ≡ Ok (store, places)
    → store.root.format ≡ 1 → (block : ℕ) → 1 ≤ block → block < store.root.blocks
    → list_any (nat_eq block) places ≡ false
    → part_in_block c 0 block ≡ Some (store.root.first ++ replicate 3 no_entry)
    → root_in_block d 0 ≡ Some (widened (put_at (Some block) 0 no_parts) store.root)
    → ((n : ℕ) → n ≢ 0 → c n ≡ d n)
    → Stands d most store (λ _. Unit {0}) (state_widened (state_in store)) (λ n. IsPlace places n
    ⊎ (n ≡ block))
