-- What the block of each version that is found holds.
use Rattle.std.specs.Prelude.{◌≡◌, ℕ, suc, false, List, [], Option, Some, None, Ok, slice_get}
use Rattle.page_codec.specs.Values.{VersionValue}
use Rattle.store_model.specs.Laid.{Node, LaidVersion, LaidFile, page_in, block_in, last_laid}
use Rattle.store_model.specs.Found.{LaidStore, laid}
use Rattle.store_model.specs.Laws.{IsVersionOf}
use Rattle.store_model.specs.Changes.{version_in_block}

-- A version's block holds its version page: that of this object, which counts from 1 here, with this serial, these members, and this commit
-- reference.
pub record HasItsPage (content : ℕ → Option (List ℕ)) (object : ℕ) (version : LaidVersion) : Type 0 where
  pub page : VersionValue
  pub held : version_in_block content version.block ≡ Some page
  pub object_is : page.object ≡ object
  pub serial : page.serial ≡ version.serial
  pub commit : page.commit ≡ version.commit
  pub members : page.members ≡ version.members

-- So is it of each version that is found.
abbrev pub VersionsHavePages : Type 0
VersionsHavePages =
    (content : ℕ → Option (List ℕ)) (most : ℕ) (store : LaidStore) (places : List ℕ) → laid content most [] ≡ Ok (store, places)
    → (version : LaidVersion) (is : IsVersionOf store version) → HasItsPage content (suc is.object) version

-- The last version of each file names no next one.
abbrev pub LastsNameNone : Type 0
LastsNameNone =
    (content : ℕ → Option (List ℕ)) (most : ℕ) (store : LaidStore) (places : List ℕ) → laid content most [] ≡ Ok (store, places)
    → (object : ℕ) (file : LaidFile) (version : LaidVersion) → slice_get store.files object ≡ Some file → last_laid file.versions ≡ Some version
    → version.commit ≡ None

-- each of these pages that is not its version's own is one of those before: at the same path, and in the same block
abbrev pub AreShared : List Node → List Node → Type 0
AreShared before nodes = (path : List ℕ) (node : Node) → page_in path nodes ≡ Some node → node.is_own ≡ false → block_in path before ≡ Some node.block

-- A page that a version shares lies where the version before it has the page at that path.
abbrev pub VersionsSharePages : Type 0
VersionsSharePages =
    (content : ℕ → Option (List ℕ)) (most : ℕ) (store : LaidStore) (places : List ℕ) → laid content most [] ≡ Ok (store, places)
    → (object : ℕ) (file : LaidFile) (place : ℕ) (before version : LaidVersion) → slice_get store.files object ≡ Some file
    → slice_get file.versions place ≡ Some before → slice_get file.versions (suc place) ≡ Some version
    → AreShared before.nodes version.nodes
