-- The check of a store, and what it answers.
use Rattle.std.specs.Prelude.{◌≡◌, ℕ, ◌+◌, ◌<◌, nat_le, Bool, List, [], map, length, Option, Some, Result, Ok, Err}
use Rattle.drives.specs.declared.device.Half.{Half}
use Rattle.page_codec.specs.declared.why.Why.TheVariants.{Blocks as TooMany}
use Rattle.page_codec.specs.Values.{RootValue, TableValue}
use Rattle.page_codec.specs.TableReading.{root_of}
use Rattle.block_map.specs.States.{free_count}
use Rattle.store_model.specs.Walk.{Blocks, Walk, ◌>>=◌, ◌>>◌, done, check, decoded, content_at}
use Rattle.store_model.specs.Tables.{table_rows, files_from}
use Rattle.store_model.specs.Members.{tops_from, tops_linked}
use Rattle.store_model.specs.Found.{LaidStore}
use Rattle.store_check.specs.declared.refused.WalkRefused.{WalkRefused}
use Rattle.store_check.specs.declared.checking.Checked.{Checked}
use Rattle.store_check.specs.declared.checking.Found.{Found}
use Rattle.store_check.specs.Marks.{Marks}
use Rattle.store_check.specs.Files.{chains_of}
use Rattle.store_check.specs.Counts.{parts_in, kept_in}
use Rattle.store_check.specs.Results.{Outcome, Stops}

-- block 0, on halves of so many blocks
unfoldable pub root_from : (ℕ → Option (List ℕ)) → ℕ → Walk RootValue
root_from content most = do
  bytes ← content_at 0 (content 0)
  root ← decoded 0 (root_of bytes)
  check (nat_le root.blocks most) 0 TooMany
  done root

-- all that this block 0 leads to
unfoldable pub walk_from : Blocks → RootValue → Walk LaidStore
walk_from blocks root = do
  rows ← table_rows blocks root
  files ← files_from blocks 1 rows
  linked ← tops_linked blocks (tops_from 1 files) (record { files = files; named = [] })
  done (record { root = root; files = linked.files })

-- the table of a store: what block 0 says, and the entries of all objects
pub record LikeTable (table : TableValue) (store : LaidStore) : Type 0 where
  pub format : table.format ≡ store.root.format
  pub blocks : table.blocks ≡ store.root.blocks
  pub key : table.key ≡ store.root.key
  pub parts : table.parts ≡ store.root.parts
  pub entries : table.entries ≡ map (λ file. file.entry) store.files

-- what is told of a store that was found: its table, block 0 and the places in the map, what is kept of each object's file, and that a
-- block is free, or is block 0, a part of the table, or a page of one version's own
pub record LikeStore (checked : Checked) (store : LaidStore) (places : List ℕ) : Type 0 where
  pub table : LikeTable checked.table store
  pub size : length checked.map ≡ store.root.blocks
  pub map : Marks places checked.map
  pub heads : checked.heads.items ≡ chains_of store.files
  pub free : free_count checked.map + 1 + parts_in store.root + kept_in store.files ≡ store.root.blocks

-- The answer is the store that is found, or the first cause. After a fault of a half that was not in the last call of a device there is a cause
-- too; a fault in the last call and want of memory say nothing.
abbrev pub Answers : (Half → Bool) → Result Checked WalkRefused → Outcome LaidStore → Type 0
Answers past (Ok checked) outcome = (store : LaidStore) × (places : List ℕ) × (outcome ≡ Ok (store, places)) × LikeStore checked store places
Answers past (Err e) outcome = Stops (record { refused = e; past = past }) outcome

-- block 0 is settled, and where it is a table, every block of the store is
pub record AreSettled (settled : ℕ → Type 0) (content : ℕ → Option (List ℕ)) (size : ℕ) : Type 0 where
  pub table : settled 0
  pub others : (bytes : List ℕ) (root : RootValue) → content 0 ≡ Some bytes → root_of bytes ≡ Ok root → (n : ℕ) → n < root.blocks → n < size → settled n

-- the answer of a walk that ended so, with the map of these places
abbrev pub IsEnded : Result Found WalkRefused → ℕ → List ℕ → Result Checked WalkRefused → Type 0
IsEnded (Ok found) count places (Ok checked) =
    (checked.table ≡ found.table) × (checked.heads ≡ found.linked.chains) × (length checked.map ≡ count) × Marks places checked.map
    × (free_count checked.map + 1 + length places ≡ count)
IsEnded (Ok found) count places (Err e) = ⊥
IsEnded (Err e) count places (Ok checked) = ⊥
IsEnded (Err e) count places (Err f) = f ≡ e
