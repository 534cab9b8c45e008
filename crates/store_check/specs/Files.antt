-- Files as the walk in code keeps them.
use Rattle.std.specs.Prelude.{◌≡◌, ℕ, List, [], ◌∷◌, map, filter, length, Option, Some, None, option_map, if◌then◌else◌}
use Rattle.std.specs.List.{AllByRecursion, sum_by}
use Rattle.std.specs.Option.{is_none}
use Rattle.page_places.specs.Places.{Store}
use Rattle.store_model.specs.Laid.{LaidVersion, LaidFile, last_laid}
use Rattle.store_check.specs.declared.version.FoundVersion.{FoundVersion}
use Rattle.store_check.specs.declared.chain.FoundFile.{FoundFile}
use Rattle.store_check.specs.Before.{PagesLie}
use Rattle.store_check.specs.Versions.{shown_of}

-- the serial of the first version
abbrev pub first_serial : List LaidVersion → ℕ
first_serial [] = 0
first_serial (version ∷ others) = version.serial

-- the block of the version before the last one, where that does not name the last
abbrev pub unset_base : List LaidVersion → Option ℕ
unset_base [] = None
unset_base (last ∷ []) = None
unset_base (base ∷ last ∷ []) = if is_none base.commit then Some base.block else None
unset_base (first ∷ second ∷ third ∷ others) = unset_base (second ∷ third ∷ others)

-- how many of a version's pages are its own: each of them is in a block that no earlier version has
abbrev pub own_pages : LaidVersion → ℕ
own_pages version = length (filter (λ node. node.is_own) version.nodes)

-- how many blocks the versions of a file hold
abbrev pub kept_by : List LaidVersion → ℕ
kept_by versions = sum_by own_pages versions

-- what is kept of the versions of a file: its last one, the serial of its first one, the version whose link to the last one is
-- outstanding, and how many blocks they hold
abbrev pub chain_of : List LaidVersion → Option FoundFile
chain_of versions =
    option_map
    (λ last. record { last = shown_of last; first = first_serial versions; unset = unset_base versions; kept = kept_by versions })
    (last_laid versions)

-- what is kept of files
abbrev pub chains_of : List LaidFile → List (Option FoundFile)
chains_of files = map (λ file. chain_of file.versions) files

-- the pages of each version lie
abbrev pub AllLie : Store → ℕ → List LaidVersion → Type 0
AllLie store count versions = AllByRecursion (λ version. PagesLie store count version.block version.nodes) versions

abbrev pub FilesLie : Store → ℕ → List LaidFile → Type 0
FilesLie store count files = AllByRecursion (λ file. AllLie store count file.versions) files

-- the versions from this one on: the last of them is kept, each link is set, and all of them lie
pub record LikeVersions (store : Store) (count serial : ℕ) (last : FoundVersion) (versions : List LaidVersion) : Type 0 where
  pub is : Some last ≡ option_map shown_of (last_laid versions)
  pub begins : first_serial versions ≡ serial
  pub set : unset_base versions ≡ None
  pub lie : AllLie store count versions

-- what is kept of these files, whose versions all lie
pub record LikeFiles (store : Store) (count : ℕ) (chains : List (Option FoundFile)) (files : List LaidFile) : Type 0 where
  pub is : chains ≡ chains_of files
  pub lie : FilesLie store count files
