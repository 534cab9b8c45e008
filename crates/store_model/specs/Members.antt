-- Versions that another file's last version names, and that may not be linked to their own file yet.
use Rattle.std.specs.Prelude.{ℕ, suc, ◌-◌, ◌==◌, Bool, not, ◌&&◌, nat_eq, List, [], ◌∷◌, ◌++◌, length, Option, Some, None, slice_get, if◌then◌else◌, zero}
use Rattle.std.specs.List.{list_any}
use Rattle.std.specs.Option.{is_none, option_and_then}
use Rattle.page_codec.specs.declared.why.Why.TheVariants.{Member}
use Rattle.page_codec.specs.Values.{MemberValue}
use Rattle.store_model.specs.Walk.{Blocks, Walk, ◌>>=◌, ◌>>◌, done, refuse, check}
use Rattle.store_model.specs.Laid.{LaidVersion, LaidFile, last_laid}
use Rattle.store_model.specs.Chains.{version_at}

-- an object whose last version names members
pub record Top : Type 0 where
  pub object : ℕ
  pub version : LaidVersion

-- the files with the members that were linked so far, and the objects that were named
pub record Linked : Type 0 where
  pub files : List LaidFile
  pub named : List ℕ

-- no link of this version is outstanding
abbrev pub names_none : LaidVersion → Bool
names_none version = length version.members == 0

-- the object as a top, where its last version names members
abbrev pub top_of : ℕ → Option LaidVersion → List Top
top_of object None = []
top_of object (Some version) = if names_none version then [] else record { object = object; version = version } ∷ []

-- the tops from this object on, ascending
abbrev pub tops_from : ℕ → List LaidFile → List Top
tops_from object [] = []
tops_from object (file ∷ others) = top_of object (last_laid file.versions) ++ tops_from (suc object) others

-- the last version of an object, which counts from 1, where it is live
abbrev pub last_in : ℕ → List LaidFile → Option LaidVersion
last_in object files = if object == 0 then None else option_and_then (λ file. last_laid file.versions) (slice_get files (object - 1))

-- the file with one more version
abbrev pub longer : LaidVersion → LaidFile → LaidFile
longer version file = record file { versions = file.versions ++ version ∷ [] }

-- the files with one more version at this place
abbrev pub with_version_at : ℕ → LaidVersion → List LaidFile → List LaidFile
with_version_at place version [] = []
with_version_at zero version (file ∷ others) = longer version file ∷ others
with_version_at (suc place) version (file ∷ others) = file ∷ with_version_at place version others

-- a member is linked where it is the last version of its file; else it is tried as the next one, and counts as committed
unfoldable pub version_linked : Blocks → ℕ → MemberValue → LaidVersion → List LaidFile → Walk (List LaidFile)
version_linked blocks namer member last files =
    if last.block == member.block
    then done files
    else do
      version ← version_at blocks member.object namer member.block (Some last)
      check (is_none version.commit && names_none version) member.block Member
      done (with_version_at (member.object - 1) version files)

-- a member of a top: another live object that was not named yet, and that names none itself
unfoldable pub member_linked : Blocks → Top → MemberValue → Linked → Option LaidVersion → Walk Linked
member_linked blocks top member linked None = refuse top.version.block Member
member_linked blocks top member linked (Some last) = do
  check
      (not (member.object == top.object) && names_none last && not (list_any (nat_eq member.object) linked.named))
      top.version.block Member
  files ← version_linked blocks top.version.block member last linked.files
  done (record { files = files; named = member.object ∷ linked.named })

-- the members of a top in their order; then the top counts as named too
unfoldable pub members_linked : Blocks → Top → List MemberValue → Linked → Walk Linked
members_linked blocks top [] linked = done (record linked { named = top.object ∷ linked.named })
members_linked blocks top (member ∷ others) linked =
    member_linked blocks top member linked (last_in member.object linked.files) >>= members_linked blocks top others

-- all tops in their order
unfoldable pub tops_linked : Blocks → List Top → Linked → Walk Linked
tops_linked blocks [] linked = done linked
tops_linked blocks (top ∷ others) linked = members_linked blocks top top.version.members linked >>= tops_linked blocks others
