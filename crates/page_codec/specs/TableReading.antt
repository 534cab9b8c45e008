-- What block 0 and the parts of a table say, and why they are refused.
use Rattle.std.specs.Prelude.{ℕ, ◌==◌, Bool, not, ◌&&◌, ◌||◌, nat_lt, nat_le, List, [], ◌∷◌, ◌++◌, map, drop, Result, slice_index, if◌then◌else◌}
use Rattle.std.specs.List.{list_any, list_all}
use Rattle.std.specs.Int.{w32, w64}
use Rattle.afs_base.specs.declared.limits.TheConstants.{BLOCK_BYTES, BLOCK_NUMBERS, MAX_BLOCKS, MIN_BLOCKS, OPEN_GATE, PARTS, PART_ENTRIES, ROOT_ENTRIES, SECRET_BYTES}
use Rattle.page_codec.specs.declared.layout.TheConstants.{BLOCKS_AT, ENTRIES_AT, KEY_AT, PART, PARTS_END, ROOT_END, TABLE}
use Rattle.page_codec.specs.declared.why.Why.{Why}
use Rattle.page_codec.specs.declared.why.Why.TheVariants as why
use Rattle.page_codec.specs.declared.raw_entry.RawEntry.{RawEntry}
use Rattle.page_codec.specs.Numbers.{field, number_at, pieces, or_none}
use Rattle.page_codec.specs.Values.{EntryValue, RootValue}
use Rattle.page_codec.specs.Blank.{no_parts, no_entries}
use Rattle.page_codec.specs.Causes.{Cause, cause_or, first_cause, is_nonzero, has_other}

-- sixteen bytes as an entry's numbers and secret
abbrev pub raw_value : List ℕ → RawEntry
raw_value bytes = record { first = number_at w32 0 bytes; generation = number_at w32 BLOCKS_AT bytes; secret = field 8 SECRET_BYTES bytes }

-- so many entries behind the first sixteen bytes
unfoldable pub raw_entries : ℕ → List ℕ → List RawEntry
raw_entries count b = map raw_value (pieces 16 count (drop ENTRIES_AT b))

-- an entry: its first block is none where the number is 0
abbrev pub entry_value : RawEntry → EntryValue
entry_value raw = record { first = or_none raw.first; generation = raw.generation; secret = raw.secret }

-- the first block is not below a limit
abbrev pub is_far : ℕ → RawEntry → Bool
is_far limit raw = nat_le limit raw.first

-- a live entry with generation 0
abbrev pub is_uncounted : RawEntry → Bool
is_uncounted raw = not (raw.first == 0) && raw.generation == 0

-- an entry that is not live, with a secret
abbrev pub is_stray : RawEntry → Bool
is_stray raw = raw.first == 0 && list_any is_nonzero raw.secret

-- an entry where no file ever was
abbrev pub is_unused : RawEntry → Bool
is_unused raw = raw.generation == 0

-- the causes for entries whose first blocks have a limit
abbrev pub entry_causes : ℕ → List RawEntry → List Cause
entry_causes limit raws =
    (list_any (is_far limit) raws, why.Reference) ∷ (list_any is_uncounted raws, why.Generation) ∷ (list_any is_stray raws, why.Secret) ∷ []

-- the number of blocks of the store
abbrev pub block_count : List ℕ → ℕ
block_count b = number_at w32 BLOCKS_AT b

-- the blocks of the parts as numbers, 0 where there is none
unfoldable pub part_numbers : List ℕ → List ℕ
part_numbers b = map (number_at w32 0) (pieces 4 PARTS (field ENTRIES_AT 256 b))

-- the causes for block 0 that both formats have
unfoldable pub head_causes : List ℕ → List Cause
head_causes b =
    (not (slice_index b 0 == OPEN_GATE), why.Closed)
    ∷ (not (slice_index b 1 == TABLE), why.Kind)
    ∷ (not (slice_index b 2 == 1) && not (slice_index b 2 == 2), why.Format)
    ∷ (nat_lt (block_count b) MIN_BLOCKS || nat_lt MAX_BLOCKS (block_count b), why.Blocks)
    ∷ []

-- those of format 1
unfoldable pub one_causes : List ℕ → List Cause
one_causes b = entry_causes (block_count b) (raw_entries ROOT_ENTRIES b) ++ (not (slice_index b 3 == 0) || has_other ROOT_END BLOCK_BYTES b, why.Zero) ∷ []

-- those of format 2
unfoldable pub two_causes : List ℕ → List Cause
two_causes b =
    (list_any (nat_le (block_count b)) (part_numbers b), why.Reference)
    ∷ (not (slice_index b 3 == 0) || has_other PARTS_END BLOCK_BYTES b, why.Zero)
    ∷ []

-- the causes for block 0
abbrev pub root_causes : List ℕ → List Cause
root_causes b = head_causes b ++ (if slice_index b 2 == 1 then one_causes b else two_causes b)

-- what block 0 says
unfoldable pub root_value : List ℕ → RootValue
root_value b =
    record {
      format = slice_index b 2;
      blocks = block_count b;
      key = number_at w64 KEY_AT b;
      parts = (if slice_index b 2 == 1 then no_parts else map or_none (part_numbers b));
      first = (if slice_index b 2 == 1 then map entry_value (raw_entries ROOT_ENTRIES b) else no_entries ROOT_ENTRIES);
    }

-- the causes for part j of a table
unfoldable pub part_causes : ℕ → List ℕ → List Cause
part_causes j b =
    (not (slice_index b 0 == OPEN_GATE), why.Closed)
    ∷ (not (slice_index b 1 == PART), why.Kind)
    ∷ (not (slice_index b 2 == j), why.Index)
    ∷ (entry_causes BLOCK_NUMBERS (raw_entries PART_ENTRIES b) ++ (has_other 3 ENTRIES_AT b, why.Zero) ∷ (list_all is_unused (raw_entries PART_ENTRIES b), why.Empty) ∷ [])

-- the entries of a part
unfoldable pub part_value : List ℕ → List EntryValue
part_value b = map entry_value (raw_entries PART_ENTRIES b)

-- a block as block 0, or the first cause
abbrev pub root_of : List ℕ → Result RootValue Why
root_of b = cause_or (first_cause (root_causes b)) (root_value b)

-- a block as part j, or the first cause
abbrev pub part_of : ℕ → List ℕ → Result (List EntryValue) Why
part_of j b = cause_or (first_cause (part_causes j b)) (part_value b)
