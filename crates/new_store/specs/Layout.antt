-- What each block of a new store holds.
use Rattle.std.specs.Prelude.{◌≡◌, ℕ, ◌+◌, ◌-◌, ◌*◌, ◌<◌, List, map, Option, Some, None, nat_eq, nat_le, nat_lt, if◌then◌else◌}
use Rattle.std.specs.List.{range_with_len}
use Rattle.page_codec.specs.Values.{EntryValue, RootValue}
use Rattle.page_codec.specs.Blank.{no_entries}
use Rattle.page_codec.specs.NewStore.{new_entry, new_root, new_version}
use Rattle.page_codec.specs.Spelling.{version_bytes}
use Rattle.page_codec.specs.TableSpelling.{part_bytes, root_bytes}
use Rattle.new_store.specs.declared.store.NewStore.{NewStore}
use Rattle.new_store.specs.Sizes.{part_count, used_blocks}

-- the block of part j, where the table has that part: behind the version pages
abbrev pub part_block : ℕ → ℕ → Option ℕ
part_block files j = if nat_lt j (part_count files) then Some (files + 1 + j) else None

-- the blocks of all sixty-four parts
unfoldable pub part_blocks : ℕ → List (Option ℕ)
part_blocks files = map (part_block files) (range_with_len 0 64)

-- block 0: in format 1 it has the entries, in format 2 the blocks of the parts
abbrev pub table_of : NewStore → RootValue
table_of s =
    if nat_le s.files 60
    then new_root s.files s.blocks s.key
    else record { format = 2; blocks = s.blocks; key = s.key; parts = part_blocks s.files; first = no_entries 60 }

-- the entries of part j: those of the objects 63 j + 1 to 63 j + 63
unfoldable pub part_of_new : NewStore → ℕ → List EntryValue
part_of_new s j = map (new_entry s.files s.key) (range_with_len (63 * j + 1) 63)

-- block 0 is the table, block i the version page of file i, and then come the parts
unfoldable pub new_block : NewStore → ℕ → List ℕ
new_block s n =
    if nat_eq n 0
    then root_bytes (table_of s)
    else if nat_le n s.files
    then version_bytes (new_version n)
    else part_bytes (n - (s.files + 1)) (part_of_new s (n - (s.files + 1)))

-- these contents are those of a new store; all other blocks may hold anything
abbrev pub HasNewStore : NewStore → (ℕ → Option (List ℕ)) → Type 0
HasNewStore s f = (n : ℕ) → n < used_blocks s.files → f n ≡ Some (new_block s n)
