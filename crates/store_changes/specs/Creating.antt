-- One file more.
use Rattle.std.specs.Prelude.{◌≡◌, ◌≢◌, ◌⊎◌, ℕ, suc, ◌<◌, ◌≤◌, nat_eq, false, List, [], ◌∷◌, Some, Ok, slice_get}
use Rattle.std.specs.List.{list_any}
use Rattle.tree_model.specs.States.{File}
use Rattle.page_codec.specs.Values.{EntryValue}
use Rattle.page_codec.specs.NewStore.{new_version}
use Rattle.store_model.specs.Laid.{LaidVersion, LaidFile}
use Rattle.store_model.specs.Found.{LaidStore, state_in, laid}
use Rattle.store_model.specs.Changes.{version_in_block}
use Rattle.store_model.specs.NewStores.{blank_version}
use Rattle.store_changes.specs.Writes.{Content, WritesEntry, InNewPart}
use Rattle.store_changes.specs.Stands.{Stands, Another, IsPlace, with_file}

-- Whatever is written into a block that is no place, the same store is found in the same places.
abbrev pub FreeBlocksAreFree : Type 0
FreeBlocksAreFree =
    (c d : Content) (most : ℕ) (store : LaidStore) (places : List ℕ)
    → laid c most [] ≡ Ok (store, places)
    → (block : ℕ) → 1 ≤ block → list_any (nat_eq block) places ≡ false
    → ((n : ℕ) → n ≢ block → c n ≡ d n)
    → laid d most [] ≡ Ok (store, places)

-- An object that is not live, and the page of its first version in a block that is no place.
-- Objects count from 0 here, and from 1 in the page.
pub record NewFile (content : Content) (store : LaidStore) (places : List ℕ)
    (object block : ℕ) : Type 0 where
  pub file : LaidFile
  pub listed : slice_get store.files object ≡ Some file
  pub dead : file.versions ≡ []
  pub low : 1 ≤ block
  pub high : block < store.root.blocks
  pub free : list_any (nat_eq block) places ≡ false
  pub page : version_in_block content block ≡ Some (new_version (suc object))

-- a file of one version, a page without data, with the generation and the secret of an entry
abbrev pub file_made : EntryValue → File
file_made entry =
    record { generation = entry.generation; secret = entry.secret; versions = blank_version ∷ [] }

-- What a creation makes of a store: the object has this file, whose one version is in the block,
-- and nothing else changes.
pub record Created (content : Content) (most : ℕ) (old : LaidStore) (object block : ℕ)
    (entry : EntryValue) (P : ℕ → Type 0) : Type 0 where
  pub stands : Stands
      content most old (Another object) (with_file object (file_made entry) (state_in old)) P
  pub file : LaidFile
  pub version : LaidVersion
  pub listed : slice_get stands.store.files object ≡ Some file
  pub entry_is : file.entry ≡ entry
  pub one : file.versions ≡ version ∷ []
  pub block_is : version.block ≡ block

-- Writing the entry of a new file adds it, and nothing else changes: one block more is a place.
abbrev pub CreatingAdds : Type 0
CreatingAdds =
    (c d : Content) (most : ℕ) (store : LaidStore) (places : List ℕ)
    → laid c most [] ≡ Ok (store, places)
    → (object block : ℕ) → NewFile c store places object block
    → (entry : EntryValue) → entry.first ≡ Some block → WritesEntry c d store.root object entry
    → Created d most store object block entry (λ n. IsPlace places n ⊎ (n ≡ block))

-- And so where the table gets a new part with it, which lies in another block that is no place:
-- then that is a place too.
abbrev pub CreatingAddsPart : Type 0
CreatingAddsPart =
    (c d : Content) (most : ℕ) (store : LaidStore) (places : List ℕ)
    → laid c most [] ≡ Ok (store, places)
    → (object block : ℕ) → NewFile c store places object block
    → (entry : EntryValue) → entry.first ≡ Some block
    → (new : InNewPart c d store.root places object entry) → new.block ≢ block
    → Created d most store object block entry (λ n. IsPlace places n
    ⊎ ((n ≡ block) ⊎ (n ≡ new.block)))
