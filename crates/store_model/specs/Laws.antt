-- What follows for every store.
use Rattle.std.specs.Prelude.{◌≡◌, ◌==◌, ℕ, true, nat_eq, List, [], Option, Some, None, option_map, Result, Ok, Err, slice_index, slice_get, if◌then◌else◌}
use Rattle.std.specs.Option.{option_and_then}
use Rattle.tree_model.specs.States.{State, IsState}
use Rattle.page_places.specs.Places.{Store, Holds}
use Rattle.page_codec.specs.declared.why.Why.{Why}
use Rattle.page_codec.specs.Values.{PageValue}
use Rattle.page_codec.specs.Causes.{page_of, version_of}
use Rattle.std.specs.List.{list_any}
use Rattle.store_model.specs.Laid.{LaidVersion, LaidFile}
use Rattle.store_model.specs.Found.{LaidStore, laid, version_in, found}

-- two contents agree on block 0 and on these blocks
pub record AgreeOn (c d : ℕ → Option (List ℕ)) (places : List ℕ) : Type 0 where
  pub table : c 0 ≡ d 0
  pub others : (n : ℕ) → list_any (nat_eq n) places ≡ true → c n ≡ d n

-- Block 0 and the places that were found decide what the store is: every other block may hold anything.
abbrev pub PlacesDecide : Type 0
PlacesDecide =
    (c d : ℕ → Option (List ℕ)) (most : ℕ) (store : LaidStore) (places : List ℕ)
    → laid c most [] ≡ Ok (store, places)
    → AgreeOn c d places
    → laid d most [] ≡ Ok (store, places)

-- what was read, where it could be
abbrev pub read_of : {X : Type 0} → Result X Why → Option X
read_of (Ok x) = Some x
read_of (Err why) = None

-- the page that a block holds: of a version page that of `/`, and else one below it
abbrev pub page_of_block : List ℕ → Option PageValue
page_of_block bytes = if slice_index bytes 1 == 86 then option_map (λ v. v.page) (read_of (version_of bytes)) else read_of (page_of bytes)

-- the page that each block holds, where it holds one
abbrev pub pages_of : (ℕ → Option (List ℕ)) → Store
pages_of content n = option_and_then page_of_block (content n)

-- a version of a store
pub record IsVersionOf (store : LaidStore) (version : LaidVersion) : Type 0 where
  pub object : ℕ
  pub file : LaidFile
  pub place : ℕ
  pub listed : slice_get store.files object ≡ Some file
  pub kept : slice_get file.versions place ≡ Some version

-- Each version that is found is a tree of pages in blocks: from its own block down, the blocks hold its tree, and no other page.
abbrev pub VersionsAreHeld : Type 0
VersionsAreHeld =
    (content : ℕ → Option (List ℕ)) (most : ℕ) (store : LaidStore) (places : List ℕ) → laid content most [] ≡ Ok (store, places)
    → (version : LaidVersion) → IsVersionOf store version
    → Holds (pages_of content) version.block (version_in version).tree

-- What is found is a state: a table of one of the two formats with as many entries as it has; the serials of each file rise by one, its versions
-- have trees, and the first one has all its paths fresh.
abbrev pub FoundIsState : Type 0
FoundIsState = (content : ℕ → Option (List ℕ)) (most : ℕ) (state : State) → found content most ≡ Ok state → IsState state
