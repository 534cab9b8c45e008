-- What a store is after one of its blocks was written.
use Rattle.std.specs.Prelude.{◌≡◌, ◌≢◌, ℕ, zero, suc, ◌-◌, true, false, nat_eq, List, [], ◌∷◌, ◌++◌, map, length, Option, Some, None, Ok, slice_get}
use Rattle.std.specs.List.{list_any}
use Rattle.std.specs.Option.{option_and_then}
use Rattle.tree_model.specs.States.{State, Version}
use Rattle.page_codec.specs.Values.{VersionValue, MemberValue}
use Rattle.page_codec.specs.Causes.{version_of}
use Rattle.store_model.specs.Laid.{LaidVersion, LaidFile, last_laid}
use Rattle.store_model.specs.Members.{Linked, names_none, members_linked}
use Rattle.store_model.specs.Chains.{version_at}
use Rattle.store_model.specs.Found.{LaidStore, version_in, state_in, laid, found}
use Rattle.store_model.specs.Laws.{read_of}

-- the version page that a block holds, where it holds one
abbrev pub version_in_block : (ℕ → Option (List ℕ)) → ℕ → Option VersionValue
version_in_block content block = option_and_then (λ bytes. read_of (version_of bytes)) (content block)

-- a block that held a version page now holds that page with this change, and no other block was written
pub record Rewrites (c d : ℕ → Option (List ℕ)) (block : ℕ) (change : VersionValue → VersionValue) : Type 0 where
  pub page : VersionValue
  pub was : version_in_block c block ≡ Some page
  pub is : version_in_block d block ≡ Some (change page)
  pub others : (n : ℕ) → n ≢ block → c n ≡ d n

-- a version page with this commit reference, and one that names no members
abbrev pub with_commit : ℕ → VersionValue → VersionValue
with_commit block page = record page { commit = Some block }

abbrev pub without_members : VersionValue → VersionValue
without_members page = record page { members = [] }

-- the same of a version as it lies
abbrev pub committed : ℕ → LaidVersion → LaidVersion
committed block version = record version { commit = Some block }

abbrev pub cleared : LaidVersion → LaidVersion
cleared version = record version { members = [] }

-- a list with the item at this place changed
abbrev pub changed_at : {X : Type 0} → (X → X) → ℕ → List X → List X
changed_at change place [] = []
changed_at change zero (x ∷ xs) = change x ∷ xs
changed_at change (suc place) (x ∷ xs) = x ∷ changed_at change place xs

-- a file with the version at this place changed
abbrev pub file_with : (LaidVersion → LaidVersion) → ℕ → LaidFile → LaidFile
file_with change place file = record file { versions = changed_at change place file.versions }

-- a store with one version of one file changed
abbrev pub store_with : (LaidVersion → LaidVersion) → ℕ → ℕ → LaidStore → LaidStore
store_with change object place store = record store { files = changed_at (file_with change place) object store.files }

-- the contents stand for this store, and it lies in these places, found in whatever order
pub record LiesIn (content : ℕ → Option (List ℕ)) (most : ℕ) (store : LaidStore) (places : List ℕ) : Type 0 where
  pub order : List ℕ
  pub laid : laid content most [] ≡ Ok (store, order)
  pub same : (n : ℕ) → list_any (nat_eq n) order ≡ list_any (nat_eq n) places

-- A link that is outstanding: a version without a commit reference, and the version that follows it all the same. Objects count from 0 here.
pub record Outstanding (store : LaidStore) : Type 0 where
  pub object : ℕ
  pub file : LaidFile
  pub place : ℕ
  pub base : LaidVersion
  pub next : LaidVersion
  pub listed : slice_get store.files object ≡ Some file
  pub before : slice_get file.versions place ≡ Some base
  pub after : slice_get file.versions (suc place) ≡ Some next
  pub nil : base.commit ≡ None

-- Setting a link that is outstanding changes nothing but the commit reference: the files that are found stay, and so do the places.
abbrev pub LinkingKeeps : Type 0
LinkingKeeps =
    (c d : ℕ → Option (List ℕ)) (most : ℕ) (store : LaidStore) (places : List ℕ)
    → laid c most [] ≡ Ok (store, places)
    → (link : Outstanding store)
    → Rewrites c d link.base.block (with_commit link.next.block)
    → LiesIn d most (store_with (committed link.next.block) link.object link.place store) places
    × (found d most ≡ found c most)

-- a version that names members: the last one of a file
pub record IsTop (store : LaidStore) (version : LaidVersion) : Type 0 where
  pub object : ℕ
  pub file : LaidFile
  pub listed : slice_get store.files object ≡ Some file
  pub last : last_laid file.versions ≡ Some version
  pub names : names_none version ≡ false

-- each version of a file that another one follows has a commit reference
abbrev pub IsLinked : LaidFile → Type 0
IsLinked file =
    (place : ℕ) (base next : LaidVersion) → slice_get file.versions place ≡ Some base → slice_get file.versions (suc place) ≡ Some next
    → base.commit ≢ None

-- no link is outstanding in a file that one of these members is of
abbrev pub AreLinked : LaidStore → List MemberValue → Type 0
AreLinked store members =
    (k : ℕ) (member : MemberValue) (file : LaidFile) → slice_get members k ≡ Some member → slice_get store.files (member.object - 1) ≡ Some file
    → IsLinked file

-- Clearing the members of a version whose links are all set changes nothing else: the files that are found stay, and so do the places.
abbrev pub ClearingKeeps : Type 0
ClearingKeeps =
    (c d : ℕ → Option (List ℕ)) (most : ℕ) (store : LaidStore) (places : List ℕ)
    → laid c most [] ≡ Ok (store, places)
    → (version : LaidVersion) (top : IsTop store version)
    → AreLinked store version.members
    → Rewrites c d version.block without_members
    → LiesIn d most (store_with cleared top.object (length top.file.versions - 1) store) places
    × (found d most ≡ found c most)

-- a file whose last version names this block, and which has this version behind it
abbrev pub file_committed : ℕ → LaidVersion → LaidFile → LaidFile
file_committed block version file =
    record file { versions = changed_at (committed block) (length file.versions - 1) file.versions ++ version ∷ [] }

-- the files with the next version of one of them, and no member looked at yet
abbrev pub files_committed : ℕ → ℕ → LaidVersion → LaidStore → Linked
files_committed object block version store = record { files = changed_at (file_committed block version) object store.files; named = [] }

-- The next version of a file, in blocks that are no places yet: it follows the last version, and names no next one. Its members, if it names
-- any, are linked or are next versions in turn. The last version names no members, and no version of the store names a member of one of these
-- files. Objects count from 0 here.
pub record NextVersion (content : ℕ → Option (List ℕ)) (store : LaidStore) (places : List ℕ) : Type 0 where
  pub object : ℕ
  pub file : LaidFile
  pub base : LaidVersion
  pub listed : slice_get store.files object ≡ Some file
  pub last : last_laid file.versions ≡ Some base
  pub none : names_none base ≡ true
  pub block : ℕ
  pub version : LaidVersion
  pub own : List ℕ
  pub read : version_at (record { content = content; count = store.root.blocks }) (suc object) base.block block (Some base) places ≡ Ok (version, own)
  pub nil : version.commit ≡ None
  pub linked : Linked
  pub after : List ℕ
  pub members :
      members_linked
      (record { content = content; count = store.root.blocks }) (record { object = suc object; version = version })
      version.members (files_committed object block version store) own
      ≡ Ok (linked, after)
  pub unnamed : (top : LaidVersion) → IsTop store top → (k : ℕ) (member : MemberValue) → slice_get top.members k ≡ Some member
      → list_any (nat_eq member.object) (suc object ∷ map (λ m. m.object) version.members) ≡ false

-- Writing the commit reference of a last version appends the version that it names, and those of its members, all at once: the files that are
-- found are those where the members count.
abbrev pub CommittingTogether : Type 0
CommittingTogether =
    (c d : ℕ → Option (List ℕ)) (most : ℕ) (store : LaidStore) (places : List ℕ)
    → laid c most [] ≡ Ok (store, places)
    → (next : NextVersion c store places)
    → Rewrites c d next.base.block (with_commit next.block)
    → LiesIn d most (record store { files = next.linked.files }) next.after
    × (found d most ≡ Ok (state_in (record store { files = next.linked.files })))

-- a state with one more version of an object, which counts from 0
abbrev pub with_version : ℕ → Version → State → State
with_version object version state =
    record state { files = changed_at (λ file. record file { versions = file.versions ++ version ∷ [] }) object state.files }

-- where the next version names no members, the state that is found has one more version of its file, and is the same in all else
abbrev pub CommittingAppends : Type 0
CommittingAppends =
    (c d : ℕ → Option (List ℕ)) (most : ℕ) (store : LaidStore) (places : List ℕ)
    → laid c most [] ≡ Ok (store, places)
    → (next : NextVersion c store places)
    → names_none next.version ≡ true
    → Rewrites c d next.base.block (with_commit next.block)
    → found d most ≡ Ok (with_version next.object (version_in next.version) (state_in store))
