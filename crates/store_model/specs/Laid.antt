-- Versions and files as they lie in blocks.
use Rattle.std.specs.Prelude.{ℕ, ◌-◌, Bool, false, nat_eq, List, map, filter, find, length, Option, option_map, slice_get, if◌then◌else◌}
use Rattle.ref_flags.specs.Flagged.{Flagged, no_flags}
use Rattle.page_codec.specs.Values.{MemberValue, EntryValue}
use Rattle.std.specs.Option.{option_map_or}
use Rattle.afs_base.specs.Path.{is_prefix}
use Rattle.page_places.specs.Places.{same}

-- A page of a version: its path, its block, the marks of the reference to it, its mask of modified slots, its data,
-- and whether the block is its version's own or is shared with the version before.
pub record Node : Type 0 where
  pub path : List ℕ
  pub block : ℕ
  pub flags : Flagged
  pub modified : ℕ
  pub bytes : List ℕ
  pub is_own : Bool

-- a version: its serial, its block, the block of the next version, its members, and its pages in the order of their paths
pub record LaidVersion : Type 0 where
  pub serial : ℕ
  pub block : ℕ
  pub commit : Option ℕ
  pub members : List MemberValue
  pub nodes : List Node

-- a file: its entry in the table and its versions, the oldest first
pub record LaidFile : Type 0 where
  pub entry : EntryValue
  pub versions : List LaidVersion

-- A page of another version, shared together with the one at `path`: the slot that names the page at `path` itself has no marks in the later
-- version; those below it stand in pages of the other version, and keep theirs.
abbrev pub as_shared : List ℕ → Node → Node
as_shared path node = record node { flags = (if same path node.path then no_flags else node.flags); is_own = false }

-- the pages at a path and below it, as a later version shares them
abbrev pub shared_from : List ℕ → List Node → List Node
shared_from path nodes = map (as_shared path) (filter (λ node. is_prefix path node.path) nodes)

-- the page at a path
abbrev pub page_in : List ℕ → List Node → Option Node
page_in path nodes = find (λ node. same path node.path) nodes

-- the block of the page at a path
abbrev pub block_in : List ℕ → List Node → Option ℕ
block_in path nodes = option_map (λ node. node.block) (page_in path nodes)

-- the block is this one
abbrev pub is_block : ℕ → Option ℕ → Bool
is_block block named = option_map_or (nat_eq block) named false

-- the page at a path is in this block
abbrev pub lies_at : List ℕ → ℕ → List Node → Bool
lies_at path block nodes = is_block block (block_in path nodes)

-- the last of these versions
abbrev pub last_laid : List LaidVersion → Option LaidVersion
last_laid versions = slice_get versions (length versions - 1)
