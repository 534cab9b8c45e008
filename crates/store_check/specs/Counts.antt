-- How many blocks are places of a store: the parts of its table, and the pages of its versions, each counted once.
use Rattle.std.specs.Prelude.{◌≡◌, ◌==◌, ◌+◌, ℕ, ◌<◌, ◌≤◌, nat_eq, List, [], length, Option, Some, None, Ok, count_by, if◌then◌else◌}
use Rattle.std.specs.List.{AllByRecursion, IsDistinct, sum_by}
use Rattle.std.specs.Option.{is_some}
use Rattle.page_codec.specs.Values.{RootValue}
use Rattle.store_model.specs.Laid.{LaidFile}
use Rattle.store_model.specs.Found.{LaidStore, laid}
use Rattle.store_check.specs.declared.chain.FoundFile.{FoundFile}
use Rattle.store_check.specs.Files.{kept_by}

-- how many blocks the table has beside block 0
abbrev pub parts_in : RootValue → ℕ
parts_in root = if root.format == 1 then 0 else count_by is_some root.parts

-- how many blocks the versions of files hold
abbrev pub kept_in : List LaidFile → ℕ
kept_in files = sum_by (λ file. kept_by file.versions) files

-- how many blocks the file of an object holds, where it is live
abbrev pub kept_of : Option FoundFile → ℕ
kept_of None = 0
kept_of (Some chain) = chain.kept

-- a block that may be a place
abbrev pub IsPlace : ℕ → ℕ → Type 0
IsPlace blocks n = (1 ≤ n) × (n < blocks)

-- the places of a store: so many, none twice, and each is one of its blocks, but not block 0
pub record AreCounted (store : LaidStore) (places : List ℕ) : Type 0 where
  pub number : length places ≡ parts_in store.root + kept_in store.files
  pub distinct : IsDistinct nat_eq places
  pub each : AllByRecursion (IsPlace store.root.blocks) places

-- The places of each store that is found are counted: a part of the table and a page of a version's own are one place each.
abbrev pub PlacesAreCounted : Type 0
PlacesAreCounted =
    (content : ℕ → Option (List ℕ)) (most : ℕ) (store : LaidStore) (places : List ℕ) → laid content most [] ≡ Ok (store, places)
    → AreCounted store places
