use Rattle.std.specs.Prelude.{◌≡◌, ℕ, ◌+◌, ◌-◌, ◌*◌, Bool, List, map, length, take, drop, nat_eq, nat_lt, if◌then◌else◌, Option, Some, None, option_map, count_by, slice_get, ◌⊎◌}
use Rattle.std.specs.List.{list_any}
use Rattle.std.specs.FinMap as map
use Rattle.tree_model.specs.Trees.{Tree, IsKept, numbers_below}

-- The state that a store keeps, as its users know it. No block number is in it.

-- a committed version of a file: its serial, its tree, and the paths of the pages that it does not share with the version before it
pub record Version : Type 0 where
  pub serial : ℕ
  pub tree : Tree
  pub fresh : List (List ℕ)

-- an entry of the table: how often a file was made there, the secret of its capabilities, and the versions that are kept, the oldest first
pub record File : Type 0 where
  pub generation : ℕ
  pub secret : List ℕ
  pub versions : List Version

-- the format of the table, the number of blocks, the key, and the entries, object 1 first
pub record State : Type 0 where
  pub format : ℕ
  pub blocks : ℕ
  pub key : ℕ
  pub files : List File

-- ---- words

-- the number of entries of a table of each format
abbrev pub entry_count : ℕ → ℕ
entry_count format = if nat_eq format 1 then 60 else 4032

-- a file is live where it has a version
abbrev pub is_live : File → Bool
is_live file = nat_lt 0 (length file.versions)

-- the serials of the versions that are kept, the oldest first
abbrev pub serials_of : File → List ℕ
serials_of file = map (λ v. v.serial) file.versions

-- the last of these
abbrev pub last_of : List Version → Option Version
last_of versions = slice_get versions (length versions - 1)

-- the last version, of a live file
abbrev pub last_version : File → Option Version
last_version file = last_of file.versions

-- the serial of the last version, of a live file
abbrev pub last_serial : File → Option ℕ
last_serial file = option_map (λ v. v.serial) (last_version file)

-- the entry of an object, which counts from 1
abbrev pub file_of : State → ℕ → Option File
file_of state object = if nat_eq object 0 then None else slice_get state.files (object - 1)

-- the sixty-three entries that one part of a table of format 2 has
abbrev pub group_of : List File → ℕ → List File
group_of files j = take 63 (drop (63 * j) files)

-- some file was once made in one of these entries
abbrev pub is_used : List File → Bool
is_used files = list_any (λ file. nat_lt 0 file.generation) files

-- the blocks of the table: the first block, and in format 2 one more for each group of entries that is used
abbrev pub table_blocks : State → ℕ
table_blocks state = if nat_eq state.format 1 then 1 else 1 + count_by (λ j. is_used (group_of state.files j)) (numbers_below 64)

-- the serials rise by one
abbrev pub IsRising : List ℕ → Type 0
IsRising serials = (k m n : ℕ) → slice_get serials k ≡ Some m → slice_get serials (k + 1) ≡ Some n → n ≡ m + 1

-- a file's serials rise by one, its versions have trees, and the first one has all its paths fresh
pub record IsFile (file : File) : Type 0 where
  pub rising : IsRising (serials_of file)
  pub trees : (k : ℕ) (v : Version) → slice_get file.versions k ≡ Some v → IsKept v.tree
  pub first : (v : Version) → slice_get file.versions 0 ≡ Some v → v.fresh ≡ map.keys v.tree

-- a table of one of the two formats, with as many entries as it has, each of which is a file
pub record IsState (state : State) : Type 0 where
  pub format : (state.format ≡ 1) ⊎ (state.format ≡ 2)
  pub count : length state.files ≡ entry_count state.format
  pub each : (k : ℕ) (file : File) → slice_get state.files k ≡ Some file → IsFile file
