-- What a block says, field by field, whether or not it is in the grammar.
use Rattle.std.specs.Prelude.{ℕ, ◌/◌, ◌%◌, List, map, drop, slice_index}
use Rattle.std.specs.Int.{w16, w32, w64}
use Rattle.afs_base.specs.declared.limits.TheConstants.{BLOCK_NUMBERS, SLOTS}
use Rattle.page_codec.specs.declared.layout.TheConstants.{BASE_AT, COMMIT_AT, COUNT_AT, DATA_AT, LENGTH_AT, MASK_AT, MEMBERS_AT, OBJECT_AT, SERIAL_AT, SLOTS_AT}
use Rattle.ref_flags.specs.Codes.{flags_of}
use Rattle.page_codec.specs.Numbers.{field, number_at, pieces, or_none}
use Rattle.page_codec.specs.Values.{ReferenceValue, PageValue, MemberValue, VersionValue}

-- the sixteen slots as numbers
unfoldable pub slots : List ℕ → List ℕ
slots b = map (number_at w32 0) (pieces 4 SLOTS (field SLOTS_AT 64 b))

-- a slot's number as a reference: the code above 28 bits of block number
abbrev pub reference : ℕ → ReferenceValue
reference n = record { flags = flags_of (n / BLOCK_NUMBERS); block = or_none (n % BLOCK_NUMBERS) }

-- how long the data is
abbrev pub data_len : List ℕ → ℕ
data_len b = number_at w16 LENGTH_AT b

-- the page in a block of either kind
unfoldable pub frame_value : List ℕ → PageValue
frame_value b =
    record { level = slice_index b 2; modified = number_at w16 MASK_AT b; refs = map reference (slots b); bytes = field DATA_AT (data_len b) b }

-- eight bytes as a member
abbrev pub member_value : List ℕ → MemberValue
member_value bytes = record { object = number_at w32 0 bytes; block = number_at w32 4 bytes }

-- as many members as the count says
unfoldable pub members_value : List ℕ → List MemberValue
members_value b = map member_value (pieces 8 (slice_index b COUNT_AT) (drop MEMBERS_AT b))

-- the version page in a block
unfoldable pub version_value : List ℕ → VersionValue
version_value b =
    record {
      root = flags_of (slice_index b 3);
      page = frame_value b;
      object = number_at w32 OBJECT_AT b;
      serial = number_at w64 SERIAL_AT b;
      commit = or_none (number_at w32 COMMIT_AT b);
      base = or_none (number_at w32 BASE_AT b);
      members = members_value b;
    }
