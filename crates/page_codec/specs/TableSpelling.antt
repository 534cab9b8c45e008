-- The one spelling of block 0 and of the parts of a table: 1,024 bytes each.
use Rattle.std.specs.Prelude.{ℕ, ◌-◌, ◌*◌, List, [], ◌∷◌, ◌++◌, Option, take, drop, nat_eq, if◌then◌else◌}
use Rattle.std.specs.List.{flat_map}
use Rattle.std.specs.Int.{w32, w64}
use Rattle.afs_base.specs.declared.limits.TheConstants.{BLOCK_BYTES, OPEN_GATE, PART_ENTRIES, ROOT_ENTRIES}
use Rattle.page_codec.specs.declared.layout.TheConstants.{PART, PARTS_END, ROOT_END, TABLE}
use Rattle.page_codec.specs.Numbers.{big_endian, zeros, or_zero}
use Rattle.page_codec.specs.Values.{EntryValue, RootValue, TableValue}
use Rattle.page_codec.specs.Blank.{no_entries}

-- an entry in sixteen bytes
abbrev pub entry_bytes : EntryValue → List ℕ
entry_bytes e = big_endian w32 (or_zero e.first) ++ big_endian w32 e.generation ++ e.secret

-- a part's block in four bytes
abbrev pub part_number_bytes : Option ℕ → List ℕ
part_number_bytes block = big_endian w32 (or_zero block)

-- what block 0 has behind its numbers: sixty entries in format 1, the blocks of the parts in format 2, with zeros behind them
unfoldable pub rest_bytes : ℕ → List (Option ℕ) → List EntryValue → List ℕ
rest_bytes format parts first =
    if nat_eq format 1
    then flat_map entry_bytes first ++ zeros (BLOCK_BYTES - ROOT_END)
    else flat_map part_number_bytes parts ++ zeros (BLOCK_BYTES - PARTS_END)

-- block 0: its kind is `T`
unfoldable pub root_bytes : RootValue → List ℕ
root_bytes r = (OPEN_GATE ∷ TABLE ∷ r.format ∷ 0 ∷ []) ++ big_endian w32 r.blocks ++ big_endian w64 r.key ++ rest_bytes r.format r.parts r.first

-- part j of a table: its kind is `E`
unfoldable pub part_bytes : ℕ → List EntryValue → List ℕ
part_bytes j entries = (OPEN_GATE ∷ PART ∷ j ∷ []) ++ zeros 13 ++ flat_map entry_bytes entries

-- the objects of part j of a table
abbrev pub part_entries : ℕ → List EntryValue → List EntryValue
part_entries j entries = take PART_ENTRIES (drop (PART_ENTRIES * j) entries)

-- block 0 of a table
abbrev pub root_in : TableValue → RootValue
root_in t =
    record {
      format = t.format;
      blocks = t.blocks;
      key = t.key;
      parts = t.parts;
      first = (if nat_eq t.format 1 then t.entries else no_entries ROOT_ENTRIES);
    }
