-- What the types keep, and which values have a spelling.
use Rattle.std.specs.Prelude.{◌≡◌, ◌==◌, ℕ, ◌<◌, ◌≤◌, ◌^◌, Bool, true, false, Option, List, length, is_some, not, IsTrue, IfSome, IfNone}
use Rattle.std.specs.List.{AllByRecursion, list_any}
use Rattle.afs_base.specs.declared.limits.TheConstants.{BLOCK_NUMBERS, MAX_BLOCKS, MAX_DATA, MAX_DEPTH, MAX_MEMBERS, MAX_OBJECTS, MIN_BLOCKS, PARTS, PART_ENTRIES, ROOT_ENTRIES, SECRET_BYTES, SLOTS}
use Rattle.ref_flags.specs.Flagged.{is_lawful}
use Rattle.page_codec.specs.Numbers.{IsBytes, zeros}
use Rattle.page_codec.specs.Values.{ReferenceValue, PageValue, MemberValue, VersionValue, EntryValue, RootValue, TableValue}
use Rattle.page_codec.specs.Blank.{no_parts, no_entries}

-- a block number, where there is one, is not 0
abbrev pub IsNamed : Option ℕ → Type 0
IsNamed block = IfSome block (λ n. 0 < n)

-- an entry where a file is, or was
abbrev pub has_generation : EntryValue → Bool
has_generation e = not (e.generation == 0)

-- a slot that names a page
abbrev pub is_used : ReferenceValue → Bool
is_used r = is_some r.block

-- what a reference keeps: no block 0, and no marks without a block
pub record IsSoundReference (r : ReferenceValue) : Type 0 where
  pub named : IsNamed r.block
  pub empty : IfNone r.block (r.flags.copied ≡ false)

-- a reference with a spelling
pub record IsReference (r : ReferenceValue) : Type 0 where
  pub sound : IsSoundReference r
  pub lawful : IsTrue (is_lawful r.flags)
  pub below : IfSome r.block (λ n. n < BLOCK_NUMBERS)

-- what a page keeps: a path has at most seven slots, and a page with a path of seven has none in use
pub record IsSoundPage (p : PageValue) : Type 0 where
  pub depth : p.level ≤ MAX_DEPTH
  pub leaf : p.level ≡ MAX_DEPTH → list_any is_used p.refs ≡ false

-- a page of any level with a spelling
pub record IsFrame (p : PageValue) : Type 0 where
  pub sound : IsSoundPage p
  pub mask : p.modified < 2 ^ 16
  pub sixteen : length p.refs ≡ SLOTS
  pub each : AllByRecursion IsReference p.refs
  pub fits : length p.bytes ≤ MAX_DATA
  pub data_bytes : IsBytes p.bytes

-- a page below `/` with a spelling
pub record IsPage (p : PageValue) : Type 0 where
  pub frame : IsFrame p
  pub below : 1 ≤ p.level

-- what a member keeps
pub record IsSoundMember (m : MemberValue) : Type 0 where
  pub object : 1 ≤ m.object
  pub block : 1 ≤ m.block

-- a member with a spelling
pub record IsMember (m : MemberValue) : Type 0 where
  pub sound : IsSoundMember m
  pub object_below : m.object < 2 ^ 32
  pub block_below : m.block < BLOCK_NUMBERS

-- what a version page keeps
pub record IsSoundVersion (v : VersionValue) : Type 0 where
  pub top : v.page.level ≡ 0
  pub object : 1 ≤ v.object
  pub serial : 1 ≤ v.serial
  pub commit : IsNamed v.commit
  pub base : IsNamed v.base

-- a version page with a spelling
pub record IsVersion (v : VersionValue) : Type 0 where
  pub sound : IsSoundVersion v
  pub frame : IsFrame v.page
  pub lawful : IsTrue (is_lawful v.root)
  pub object_below : v.object < 2 ^ 32
  pub serial_below : v.serial < 2 ^ 64
  pub commit_below : IfSome v.commit (λ n. n < BLOCK_NUMBERS)
  pub base_below : IfSome v.base (λ n. n < BLOCK_NUMBERS)
  pub count : length v.members ≤ MAX_MEMBERS
  pub each : AllByRecursion IsMember v.members

-- what an entry keeps: a live one has a generation, and one that is not live has no secret
pub record IsSoundEntry (e : EntryValue) : Type 0 where
  pub named : IsNamed e.first
  pub generation : IfSome e.first (λ _. 1 ≤ e.generation)
  pub secret : IfNone e.first (e.secret ≡ zeros SECRET_BYTES)

-- an entry with a spelling
pub record IsEntry (e : EntryValue) : Type 0 where
  pub sound : IsSoundEntry e
  pub first_below : IfSome e.first (λ n. n < BLOCK_NUMBERS)
  pub generation_below : e.generation < 2 ^ 32
  pub eight : length e.secret ≡ SECRET_BYTES
  pub secret_bytes : IsBytes e.secret

-- a first version lies in a block of the store
abbrev pub IsFirstBelow : ℕ → EntryValue → Type 0
IsFirstBelow blocks e = IfSome e.first (λ n. n < blocks)

-- a part lies in a block of the store that is not block 0
abbrev pub IsPartBelow : ℕ → Option ℕ → Type 0
IsPartBelow blocks part = IfSome part (λ n. (0 < n) × (n < blocks))

-- what block 0 keeps: every block that it names is one of the store's, format 1 has no parts, and format 2 no entries of its own
pub record IsSoundRoot (r : RootValue) : Type 0 where
  pub first_format : 1 ≤ r.format
  pub last_format : r.format ≤ 2
  pub least : MIN_BLOCKS ≤ r.blocks
  pub most : r.blocks ≤ MAX_BLOCKS
  pub parts_below : AllByRecursion (IsPartBelow r.blocks) r.parts
  pub first_below : AllByRecursion (IsFirstBelow r.blocks) r.first
  pub no_parts : r.format ≡ 1 → r.parts ≡ no_parts
  pub no_first : r.format ≡ 2 → r.first ≡ no_entries ROOT_ENTRIES

-- block 0 with a spelling
pub record IsRoot (r : RootValue) : Type 0 where
  pub sound : IsSoundRoot r
  pub key_below : r.key < 2 ^ 64
  pub parts_count : length r.parts ≡ PARTS
  pub first_count : length r.first ≡ ROOT_ENTRIES
  pub each : AllByRecursion IsEntry r.first

-- a part with a spelling: at least one of its files is there, or was
pub record IsPart (entries : List EntryValue) : Type 0 where
  pub count : length entries ≡ PART_ENTRIES
  pub each : AllByRecursion IsEntry entries
  pub used : list_any has_generation entries ≡ true

-- what a table keeps: sixty entries in format 1, and 4,032 in format 2, whose first blocks are tried when they are walked
pub record IsSoundTable (t : TableValue) : Type 0 where
  pub first_format : 1 ≤ t.format
  pub last_format : t.format ≤ 2
  pub least : MIN_BLOCKS ≤ t.blocks
  pub most : t.blocks ≤ MAX_BLOCKS
  pub parts_below : AllByRecursion (IsPartBelow t.blocks) t.parts
  pub no_parts : t.format ≡ 1 → t.parts ≡ no_parts
  pub sixty : t.format ≡ 1 → length t.entries ≡ ROOT_ENTRIES
  pub whole : t.format ≡ 2 → length t.entries ≡ MAX_OBJECTS
  pub first_below : t.format ≡ 1 → AllByRecursion (IsFirstBelow t.blocks) t.entries
