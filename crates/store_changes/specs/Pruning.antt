-- Fewer versions of a file.
use Rattle.std.specs.Prelude.{◌≡◌, ◌≢◌, ◌↔◌, ℕ, suc, ◌+◌, ◌<◌, nat_eq, not, List, [], ◌∷◌, drop, take, length, filter, Some, None, Ok, slice_get}
use Rattle.std.specs.List.{list_any}
use Rattle.std.specs.FinMap as finmap
use Rattle.tree_model.specs.States.{File, Version, State}
use Rattle.page_codec.specs.Values.{EntryValue}
use Rattle.store_model.specs.Laid.{LaidVersion, LaidFile}
use Rattle.store_model.specs.Found.{LaidStore, state_in, laid}
use Rattle.store_model.specs.Changes.{changed_at}
use Rattle.store_changes.specs.Writes.{Content, WritesEntry}
use Rattle.store_changes.specs.Stands.{Stands, Another, IsPlace, IsPageOf, IsPageOfAny, IsThere, IsThereWhole}

-- a version as the first one of its file: all its paths are fresh
abbrev pub made_first : Version → Version
made_first version = record version { fresh = finmap.keys version.tree }

abbrev pub first_made : List Version → List Version
first_made [] = []
first_made (version ∷ later) = made_first version ∷ later

-- the file with the versions from this place on
abbrev pub pruned_to : ℕ → File → File
pruned_to place file = record file { versions = first_made (drop place file.versions) }

-- the state with the versions of one file from a place on
abbrev pub state_pruned : ℕ → ℕ → State → State
state_pruned object place state =
    record state { files = changed_at (pruned_to place) object state.files }

-- The version at this place, to which commit references lead from the first one. Behind it links
-- may be outstanding. Objects count from 0 here.
pub record Kept (store : LaidStore) (object place : ℕ) : Type 0 where
  pub file : LaidFile
  pub first : LaidVersion
  pub listed : slice_get store.files object ≡ Some file
  pub kept : slice_get file.versions place ≡ Some first
  pub linked : (i : ℕ) (version : LaidVersion) → i < place
      → slice_get file.versions i ≡ Some version → version.commit ≢ None

-- an entry with another first block
abbrev pub begun_at : ℕ → EntryValue → EntryValue
begun_at block entry = record entry { first = Some block }

-- What a pruning makes of a store: the versions from one place on, in their blocks, and all else as
-- it was. The first of them has all its pages as its own, the others the same ones as before. The
-- places are the old ones without those where pages of earlier versions lie and none of that first
-- one.
pub record Pruned (content : Content) (most : ℕ) (old : LaidStore) (places : List ℕ)
    (object place : ℕ) (kept : Kept old object place) : Type 0 where
  pub stands : Stands content most old (Another object) (state_pruned object place (state_in old))
      (λ n. IsPlace places n
      × (IsPageOfAny (take place kept.file.versions) n → IsPageOf kept.first n))
  pub there : (i : ℕ) (version : LaidVersion)
      → slice_get kept.file.versions (place + i) ≡ Some version
      → IsThere stands.store object i version
  pub whole : (i : ℕ) (version : LaidVersion)
      → slice_get kept.file.versions (place + suc i) ≡ Some version
      → IsThereWhole stands.store object (suc i) version

-- Naming the block of a later version as the first keeps the versions from there on, and nothing
-- else changes.
abbrev pub PruningKeeps : Type 0
PruningKeeps =
    (c d : Content) (most : ℕ) (store : LaidStore) (places : List ℕ)
    → laid c most [] ≡ Ok (store, places)
    → (object place : ℕ) (kept : Kept store object place)
    → WritesEntry c d store.root object (begun_at kept.first.block kept.file.entry)
    → Pruned d most store places object place kept

-- ---- which blocks become free

-- the places that are no longer ones
abbrev pub freed : List ℕ → List ℕ → List ℕ
freed places order = filter (λ n. not (list_any (nat_eq n) order)) places

-- No block of a kept version becomes free: what it shares with versions before the first kept one,
-- that one has too.
abbrev pub KeptAreKept : Type 0
KeptAreKept =
    (c d : Content) (most : ℕ) (store : LaidStore) (places : List ℕ)
    → laid c most [] ≡ Ok (store, places)
    → (object place : ℕ) (kept : Kept store object place)
    → WritesEntry c d store.root object (begun_at kept.first.block kept.file.entry)
    → (i : ℕ) (version : LaidVersion) → slice_get kept.file.versions (place + i) ≡ Some version
    → (n : ℕ) → IsPageOf version n → IsPageOfAny (take place kept.file.versions) n
    → IsPageOf kept.first n

-- Where all places of a later store are places of an earlier one, what became free is the old
-- places less the new ones, and it is as many blocks as the one number is above the other.
abbrev pub ChainOfPlaces : Type 0
ChainOfPlaces =
    (c d : Content) (most : ℕ) (old new : LaidStore) (places order : List ℕ)
    → laid c most [] ≡ Ok (old, places) → laid d most [] ≡ Ok (new, order)
    → ((n : ℕ) → IsPlace order n → IsPlace places n)
    → ((n : ℕ) → IsPlace (freed places order) n ↔ (IsPlace places n × (IsPlace order n → ⊥)))
    × (length (freed places order) + length order ≡ length places)
