-- What a store is after a write: its state, and the blocks that it lies in.
use Rattle.std.specs.Prelude.{◌≡◌, ◌≢◌, ◌↔◌, ℕ, nat_eq, true, List, [], Option, Some, None, Ok, slice_get, if◌then◌else◌}
use Rattle.std.specs.List.{list_any}
use Rattle.std.specs.Option.{option_and_then}
use Rattle.tree_model.specs.States.{State, File}
use Rattle.store_model.specs.Laid.{Node, LaidVersion, LaidFile, page_in, block_in}
use Rattle.store_model.specs.Found.{LaidStore, version_in, state_in, laid}
use Rattle.store_changes.specs.Writes.{Content, put_at}

abbrev pub IsPlace : List ℕ → ℕ → Type 0
IsPlace places n = list_any (nat_eq n) places ≡ true

-- What a write made of a store: the contents stand for a store with this state, which lies in the
-- blocks with the property P and in no others; of each object with the property Other the file is
-- as it was, with the same versions in the same blocks. Objects count from 0 here.
pub record Stands (content : Content) (most : ℕ) (old : LaidStore) (Other : ℕ
    → Type 0) (state : State) (P : ℕ → Type 0) : Type 0 where
  pub store : LaidStore
  pub order : List ℕ
  pub lies : laid content most [] ≡ Ok (store, order)
  pub is : state_in store ≡ state
  pub places : (n : ℕ) → IsPlace order n ↔ P n
  pub beside : (object : ℕ) (file : LaidFile) → Other object
      → slice_get old.files object ≡ Some file → slice_get store.files object ≡ Some file

-- every object but one
abbrev pub Another : ℕ → ℕ → Type 0
Another object other = other ≢ object

-- the state with this file in place of another one
abbrev pub with_file : ℕ → File → State → State
with_file object file state = record state { files = put_at file object state.files }

-- a page of this version lies in the block
abbrev pub IsPageOf : LaidVersion → ℕ → Type 0
IsPageOf version n = (p : List ℕ) × (block_in p version.nodes ≡ Some n)

-- a page of one of these versions does
abbrev pub IsPageOfAny : List LaidVersion → ℕ → Type 0
IsPageOfAny versions n = (i : ℕ) × (version : LaidVersion) × (slice_get versions i ≡ Some version)
    × IsPageOf version n

-- a version with this serial, block and tree is at this place of an object's file
pub record IsThere (store : LaidStore) (object place : ℕ) (version : LaidVersion) : Type 0 where
  pub file : LaidFile
  pub again : LaidVersion
  pub listed : slice_get store.files object ≡ Some file
  pub kept : slice_get file.versions place ≡ Some again
  pub serial : again.serial ≡ version.serial
  pub block : again.block ≡ version.block
  pub tree : (version_in again).tree ≡ (version_in version).tree

-- the page at a path, where it is the version's own
abbrev pub own_in : List ℕ → List Node → Option Node
own_in path nodes =
    option_and_then (λ node. if node.is_own then Some node else None) (page_in path nodes)

-- And so with its own pages: at each path both have the same one, with its block, its marks and its
-- mask, or neither has one.
pub record IsThereWhole (store : LaidStore) (object place : ℕ)
    (version : LaidVersion) : Type 0 where
  pub there : IsThere store object place version
  pub own : (path : List ℕ) → own_in path there.again.nodes ≡ own_in path version.nodes
