-- Where the entries of the files of a store stand: in block 0, or in the parts that it names.
use Rattle.std.specs.Prelude.{◌≡◌, ℕ, ◌*◌, List, [], map, take, drop, replicate, Option, Some, None, Ok, slice_get}
use Rattle.page_codec.specs.Values.{EntryValue}
use Rattle.page_codec.specs.Blank.{no_entry}
use Rattle.store_model.specs.Found.{LaidStore, laid}
use Rattle.store_model.specs.NewStores.{root_in_block}
use Rattle.store_changes.specs.Writes.{Content, part_in_block}
use Rattle.store_changes.specs.Stands.{IsPlace}

-- the entries of all files, and the sixty-three of part j
abbrev pub entries_of : LaidStore → List EntryValue
entries_of store = map (λ file. file.entry) store.files

abbrev pub part_entries : ℕ → LaidStore → List EntryValue
part_entries j store = take 63 (drop (63 * j) (entries_of store))

-- A part that is there is in a block that is a place, which holds these entries; of one that is not
-- there all entries are of no file.
abbrev pub IsPartOf : Content → List ℕ → ℕ → Option ℕ → List EntryValue → Type 0
IsPartOf content places j None entries = entries ≡ replicate 63 no_entry
IsPartOf content places j (Some block) entries = IsPlace places block
    × (part_in_block content j block ≡ Some entries)

-- what the blocks of a table hold
pub record HoldsTable (content : Content) (store : LaidStore) (places : List ℕ) : Type 0 where
  pub root : root_in_block content 0 ≡ Some store.root
  pub one : store.root.format ≡ 1 → store.root.first ≡ entries_of store
  pub two : store.root.format ≡ 2 → (j : ℕ) (part : Option ℕ)
      → slice_get store.root.parts j ≡ Some part
      → IsPartOf content places j part (part_entries j store)

-- Block 0 of a store that is found reads as its table, and the entries of its files stand there, or
-- in the parts that it names.
abbrev pub TablesHoldEntries : Type 0
TablesHoldEntries =
    (content : Content) (most : ℕ) (store : LaidStore) (places : List ℕ)
    → laid content most [] ≡ Ok (store, places)
    → HoldsTable content store places
