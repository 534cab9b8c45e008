-- A new store: block 0 is its table, and block i the version page of file i.
use Rattle.std.specs.Prelude.{ℕ, ◌*◌, Some, None, List, [], ◌++◌, map, take, nat_le, if◌then◌else◌}
use Rattle.std.specs.List.{range_with_len}
use Rattle.std.specs.Int.{w32, w64}
use Rattle.afs_base.specs.declared.limits.TheConstants.{BLOCK_BYTES, ROOT_ENTRIES, SECRET_BYTES}
use Rattle.sha2.specs.Sha256.{sha256}
use Rattle.ref_flags.specs.Flagged.{no_flags}
use Rattle.page_codec.specs.Numbers.{big_endian, field}
use Rattle.page_codec.specs.Values.{VersionValue, EntryValue, RootValue}
use Rattle.page_codec.specs.Blank.{empty_page, no_entry, no_parts}

-- the first version of a file, with nothing in it
abbrev pub new_version : ℕ → VersionValue
new_version object = record { root = no_flags; page = empty_page 0; object = object; serial = 1; commit = None; base = None; members = [] }

-- the secret of a file of a generation: the first eight bytes of the digest of the key, the object and the generation
unfoldable pub secret_of : ℕ → ℕ → ℕ → List ℕ
secret_of key object generation = take SECRET_BYTES (sha256 (big_endian w64 key ++ big_endian w32 object ++ big_endian w32 generation))

-- the entry of an object in a new store: file i has its first version in block i
abbrev pub new_entry : ℕ → ℕ → ℕ → EntryValue
new_entry files key object =
    if nat_le object files
    then record { first = Some object; generation = 1; secret = secret_of key object 1 }
    else no_entry

-- the sixty entries of a new store
unfoldable pub new_entries : ℕ → ℕ → List EntryValue
new_entries files key = map (new_entry files key) (range_with_len 1 ROOT_ENTRIES)

-- block 0 of a new store
abbrev pub new_root : ℕ → ℕ → ℕ → RootValue
new_root files blocks key = record { format = 1; blocks = blocks; key = key; parts = no_parts; first = new_entries files key }

-- the block of a number in the bytes of a half
abbrev pub block_of : ℕ → List ℕ → List ℕ
block_of n bytes = field (BLOCK_BYTES * n) BLOCK_BYTES bytes
