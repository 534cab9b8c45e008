-- The files of a store as a sweep sees them.
use Rattle.std.specs.Prelude.{◌≡◌, ◌≢◌, ◌↔◌, ℕ, suc, ◌<◌, ◌≤◌, List, [], map, take, drop, length, Option, None, Some, MatchOption, Ok, slice_get}
use Rattle.page_codec.specs.Values.{EntryValue}
use Rattle.store_model.specs.Laid.{LaidVersion, LaidFile}
use Rattle.store_model.specs.Laws.{pages_of}
use Rattle.store_model.specs.Found.{LaidStore, laid}
use Rattle.store_changes.specs.Writes.{Content, WritesEntry}
use Rattle.store_changes.specs.Stands.{IsPlace, IsPageOfAny}
use Rattle.store_changes.specs.Pruning.{Kept, begun_at}
use Rattle.store_changes.specs.Destroying.{IsUntied}
use Rattle.prune_sweep.specs.Line.{IsFreed, IsFile, AreLinked}

-- the blocks of a file's versions, the oldest first
abbrev pub version_blocks : LaidFile → List ℕ
version_blocks file = map (λ version. version.block) file.versions

-- the version at this place has this serial
abbrev pub HasSerialAt : LaidFile → ℕ → ℕ → Type 0
HasSerialAt file m serial =
    (version : LaidVersion) × (slice_get file.versions m ≡ Some version) × (version.serial ≡ serial)

-- The versions of a live file before place m are to go: up to the one there, which has this serial, or
-- all of them where no serial is given. Each that goes names the next one, but for the last of the file.
pub record IsToBeSwept (file : LaidFile) (upto : Option ℕ) (m : ℕ) : Type 0 where
  pub live : (first : LaidVersion) × (slice_get file.versions 0 ≡ Some first)
  pub place : MatchOption upto (m ≡ length file.versions) (HasSerialAt file m)
  pub linked : (i : ℕ) (version : LaidVersion) → i < m → suc i < length file.versions
      → slice_get file.versions i ≡ Some version → version.commit ≢ None

-- What a sweep asks for: the file, links between its versions, and a first block, which the table names.
pub record MayBeSwept (content : Content) (blocks : ℕ) (file : LaidFile) (upto : Option ℕ) (m : ℕ) : Type 0 where
  pub is : IsFile content blocks upto (version_blocks file) m
  pub linked : AreLinked content (version_blocks file) m (λ _. Unit {0})
  pub first : ℕ
  pub begins : slice_get (version_blocks file) 0 ≡ Some first
  pub entry : file.entry.first ≡ Some first
  pub above : 1 ≤ first
  pub below : first < blocks

-- Each live file that is found is one that a sweep may begin with.
abbrev pub FilesMayBeSwept : Type 0
FilesMayBeSwept =
    (content : Content) (most : ℕ) (store : LaidStore) (places : List ℕ)
    → laid content most [] ≡ Ok (store, places)
    → (object : ℕ) (file : LaidFile) → slice_get store.files object ≡ Some file
    → (upto : Option ℕ) (m : ℕ) → IsToBeSwept file upto m
    → MayBeSwept content store.root.blocks file upto m

-- So is a file that may be pruned up to a version, and one that may be destroyed.
abbrev pub KeptMayBeSwept : Type 0
KeptMayBeSwept =
    (content : Content) (most : ℕ) (store : LaidStore) (places : List ℕ)
    → laid content most [] ≡ Ok (store, places)
    → (object place : ℕ) (kept : Kept store object place)
    → MayBeSwept content store.root.blocks kept.file (Some kept.first.serial) place

abbrev pub UntiedMayBeSwept : Type 0
UntiedMayBeSwept =
    (content : Content) (most : ℕ) (store : LaidStore) (places : List ℕ)
    → laid content most [] ≡ Ok (store, places)
    → (object : ℕ) (file : LaidFile) (first : LaidVersion) → slice_get store.files object ≡ Some file
    → slice_get file.versions 0 ≡ Some first → IsUntied store object file
    → MayBeSwept content store.root.blocks file None (length file.versions)

-- a page of a version before place m lies in the block, and none of a version from there on
abbrev pub IsOfGone : LaidFile → ℕ → ℕ → Type 0
IsOfGone file m n = IsPageOfAny (take m file.versions) n × (IsPageOfAny (drop m file.versions) n → ⊥)

-- What a sweep frees of a file that is found is just that, and it is places of the store.
abbrev pub FreedOfFound : Type 0
FreedOfFound =
    (content : Content) (most : ℕ) (store : LaidStore) (places : List ℕ)
    → laid content most [] ≡ Ok (store, places)
    → (object : ℕ) (file : LaidFile) → slice_get store.files object ≡ Some file
    → (m n : ℕ)
    → (IsFreed (pages_of content) (version_blocks file) m n ↔ IsOfGone file m n)
    × (IsFreed (pages_of content) (version_blocks file) m n → IsPlace places n)

-- of these places those with the property are none of the later ones, and all others are
abbrev pub FreesOf : List ℕ → List ℕ → (ℕ → Type 0) → Type 0
FreesOf places order Freed =
    (n : ℕ) → IsPlace places n → (Freed n → IsPlace order n → ⊥) × ((Freed n → ⊥) → IsPlace order n)

-- Naming the block of a later version as the first one frees, of the places of the store, exactly what a
-- sweep up to that version finds.
abbrev pub PruningFreesTheFound : Type 0
PruningFreesTheFound =
    (c d : Content) (most : ℕ) (store : LaidStore) (places : List ℕ)
    → laid c most [] ≡ Ok (store, places)
    → (object place : ℕ) (kept : Kept store object place)
    → WritesEntry c d store.root object (begun_at kept.first.block kept.file.entry)
    → (after : LaidStore) (order : List ℕ) → laid d most [] ≡ Ok (after, order)
    → FreesOf places order (IsFreed (pages_of c) (version_blocks kept.file) place)

-- And emptying the entry of a file frees what a sweep of the whole file finds.
abbrev pub DestroyingFreesTheFound : Type 0
DestroyingFreesTheFound =
    (c d : Content) (most : ℕ) (store : LaidStore) (places : List ℕ)
    → laid c most [] ≡ Ok (store, places)
    → (object : ℕ) (file : LaidFile) → slice_get store.files object ≡ Some file → IsUntied store object file
    → (entry : EntryValue) → entry.first ≡ None → WritesEntry c d store.root object entry
    → (after : LaidStore) (order : List ℕ) → laid d most [] ≡ Ok (after, order)
    → FreesOf places order (IsFreed (pages_of c) (version_blocks file) (length file.versions))
