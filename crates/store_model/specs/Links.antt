-- What is so of links and members in each store that is found.
use Rattle.std.specs.Prelude.{◌≡◌, ◌⊎◌, ℕ, suc, ◌-◌, true, List, [], length, Option, Some, Ok, slice_get}
use Rattle.page_codec.specs.Values.{MemberValue}
use Rattle.store_model.specs.Laid.{LaidVersion, LaidFile, last_laid}
use Rattle.store_model.specs.Members.{names_none}
use Rattle.store_model.specs.Found.{LaidStore, laid}
use Rattle.store_model.specs.Changes.{Outstanding, IsTop, IsLinked}

-- the last version of a live object: it is in the member's block, and names no members itself
pub record IsLastOfItsFile (store : LaidStore) (member : MemberValue) : Type 0 where
  pub file : LaidFile
  pub version : LaidVersion
  pub counts : member.object ≡ suc (member.object - 1)
  pub listed : slice_get store.files (member.object - 1) ≡ Some file
  pub last : last_laid file.versions ≡ Some version
  pub block : version.block ≡ member.block
  pub none : names_none version ≡ true

-- Each member that a version names is the last version of its file, whether it is linked or not.
abbrev pub MembersAreLast : Type 0
MembersAreLast =
    (content : ℕ → Option (List ℕ)) (most : ℕ) (store : LaidStore) (places : List ℕ) → laid content most [] ≡ Ok (store, places)
    → (version : LaidVersion) → IsTop store version → (k : ℕ) (member : MemberValue) → slice_get version.members k ≡ Some member
    → IsLastOfItsFile store member

-- the link from the version before the last one is outstanding
pub record LastLink (store : LaidStore) (object : ℕ) (file : LaidFile) : Type 0 where
  pub link : Outstanding store
  pub of_object : link.object ≡ object
  pub last : length file.versions ≡ suc (suc link.place)

-- In each file every link is set, or the last one alone is outstanding.
abbrev pub LinksAreSet : Type 0
LinksAreSet =
    (content : ℕ → Option (List ℕ)) (most : ℕ) (store : LaidStore) (places : List ℕ) → laid content most [] ≡ Ok (store, places)
    → (object : ℕ) (file : LaidFile) → slice_get store.files object ≡ Some file → IsLinked file ⊎ LastLink store object file
