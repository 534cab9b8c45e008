-- The one spelling of pages and version pages: 1,024 bytes.
use Rattle.std.specs.Prelude.{ℕ, ◌+◌, ◌-◌, ◌*◌, List, [], ◌∷◌, ◌++◌, length}
use Rattle.std.specs.List.{flat_map}
use Rattle.std.specs.Int.{w16, w32, w64}
use Rattle.afs_base.specs.declared.limits.TheConstants.{BLOCK_NUMBERS, MAX_DATA, MAX_MEMBERS, OPEN_GATE}
use Rattle.page_codec.specs.declared.layout.TheConstants.{DATA_AT, OBJECT_AT, PAGE, VERSION}
use Rattle.ref_flags.specs.Codes.{code_of}
use Rattle.page_codec.specs.Numbers.{big_endian, zeros, or_zero}
use Rattle.page_codec.specs.Values.{ReferenceValue, PageValue, MemberValue, VersionValue}

-- a reference as a number: the code of its marks above 28 bits of block number
abbrev pub reference_number : ReferenceValue → ℕ
reference_number r = code_of r.flags * BLOCK_NUMBERS + or_zero r.block

-- a reference in four bytes
abbrev pub reference_bytes : ReferenceValue → List ℕ
reference_bytes r = big_endian w32 (reference_number r)

-- the data in 800 bytes, with zeros behind it
abbrev pub data_bytes : List ℕ → List ℕ
data_bytes bytes = bytes ++ zeros (MAX_DATA - length bytes)

-- the gate, the kind of the block, the level and a code
abbrev pub head_bytes : ℕ → ℕ → ℕ → List ℕ
head_bytes kind level code = OPEN_GATE ∷ kind ∷ level ∷ code ∷ []

-- both kinds of page: the head, sixteen references, the length of the data, 149 bytes of the kind's own, the data,
-- the mask of modified slots, and three zeros
unfoldable pub frame_bytes : ℕ → ℕ → PageValue → List ℕ → List ℕ
frame_bytes kind code p middle =
    head_bytes kind p.level code ++ flat_map reference_bytes p.refs ++ big_endian w16 (length p.bytes) ++ middle
    ++ data_bytes p.bytes ++ big_endian w16 p.modified ++ zeros 3

-- a member in eight bytes
abbrev pub member_bytes : MemberValue → List ℕ
member_bytes m = big_endian w32 m.object ++ big_endian w32 m.block

-- a version page's own bytes: object, serial, commit and base reference, the members' number, and the members with zeros behind them
unfoldable pub version_middle : VersionValue → List ℕ
version_middle v =
    big_endian w32 v.object ++ big_endian w64 v.serial ++ big_endian w32 (or_zero v.commit) ++ big_endian w32 (or_zero v.base)
    ++ length v.members ∷ [] ++ flat_map member_bytes v.members ++ zeros (8 * MAX_MEMBERS - 8 * length v.members)

-- a page below `/`: its kind is `P`
unfoldable pub page_bytes : PageValue → List ℕ
page_bytes p = frame_bytes PAGE 0 p (zeros (DATA_AT - OBJECT_AT))

-- a version page: its kind is `V`
unfoldable pub version_bytes : VersionValue → List ℕ
version_bytes v = frame_bytes VERSION (code_of v.root) v.page (version_middle v)
