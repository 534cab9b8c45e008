-- The table of a store, and the files that it names.
use Rattle.std.specs.Prelude.{ℕ, suc, ◌==◌, List, [], ◌∷◌, ◌++◌, map, replicate, Option, Some, None, if◌then◌else◌}
use Rattle.page_codec.specs.Values.{EntryValue, RootValue}
use Rattle.page_codec.specs.Blank.{no_entry}
use Rattle.page_codec.specs.TableReading.{part_of}
use Rattle.store_model.specs.Walk.{Blocks, Walk, ◌>>=◌, done, decoded, place, if_some}
use Rattle.store_model.specs.Laid.{LaidFile}
use Rattle.store_model.specs.Chains.{chain_at}

-- an entry, and the block of the table that has it
pub record Row : Type 0 where
  pub entry : EntryValue
  pub block : ℕ

-- these entries of this block
abbrev pub rows_in : ℕ → List EntryValue → List Row
rows_in block entries = map (λ entry. record { entry = entry; block = block }) entries

-- part j of a table of format 2; one that is not there stands for sixty-three entries where no file ever was
unfoldable pub part_rows : Blocks → ℕ → Option ℕ → Walk (List Row)
part_rows blocks j None = done (rows_in 0 (replicate 63 no_entry))
part_rows blocks j (Some block) = do
  bytes ← place blocks 0 block
  entries ← decoded block (part_of j bytes)
  done (rows_in block entries)

-- the parts from part j on
unfoldable pub parts_from : Blocks → ℕ → List (Option ℕ) → Walk (List Row)
parts_from blocks j [] = done []
parts_from blocks j (part ∷ others) = do
  here ← part_rows blocks j part
  rest ← parts_from blocks (suc j) others
  done (here ++ rest)

-- all entries, object 1 first
unfoldable pub table_rows : Blocks → RootValue → Walk (List Row)
table_rows blocks root = if root.format == 1 then done (rows_in 0 root.first) else parts_from blocks 0 root.parts

-- the files from this object on, each with its whole chain before the next
unfoldable pub files_from : Blocks → ℕ → List Row → Walk (List LaidFile)
files_from blocks object [] = done []
files_from blocks object (row ∷ others) = do
  versions ← if_some row.entry.first (chain_at blocks object row.block)
  rest ← files_from blocks (suc object) others
  done (record { entry = row.entry; versions = versions } ∷ rest)
