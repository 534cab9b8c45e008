-- One file less.
use Rattle.std.specs.Prelude.{◌≡◌, ◌≢◌, ℕ, suc, true, List, [], Some, None, Ok, slice_get}
use Rattle.tree_model.specs.States.{File}
use Rattle.page_codec.specs.Values.{EntryValue, MemberValue}
use Rattle.store_model.specs.Laid.{LaidVersion, LaidFile, last_laid}
use Rattle.store_model.specs.Members.{names_none}
use Rattle.store_model.specs.Found.{LaidStore, state_in, laid}
use Rattle.store_model.specs.Changes.{IsTop}
use Rattle.store_changes.specs.Writes.{Content, WritesEntry}
use Rattle.store_changes.specs.Stands.{Stands, Another, IsPlace, IsPageOfAny, with_file}

-- No link to or from the file is outstanding: its last version names no members, and no version
-- names a member of it. Objects count from 0 here, and from 1 in members.
pub record IsUntied (store : LaidStore) (object : ℕ) (file : LaidFile) : Type 0 where
  pub none : (last : LaidVersion) → last_laid file.versions ≡ Some last → names_none last ≡ true
  pub unnamed : (top : LaidVersion) → IsTop store top → (k : ℕ) (member : MemberValue)
      → slice_get top.members k ≡ Some member
      → member.object ≢ suc object

-- an entry of no file, with the generation and the secret of an entry
abbrev pub file_gone : EntryValue → File
file_gone entry = record { generation = entry.generation; secret = entry.secret; versions = [] }

-- Emptying the entry of a file removes it, and nothing else changes: its pages are places no more.
abbrev pub DestroyingRemoves : Type 0
DestroyingRemoves =
    (c d : Content) (most : ℕ) (store : LaidStore) (places : List ℕ)
    → laid c most [] ≡ Ok (store, places)
    → (object : ℕ) (file : LaidFile) → slice_get store.files object ≡ Some file
    → IsUntied store object file
    → (entry : EntryValue) → entry.first ≡ None → WritesEntry c d store.root object entry
    → Stands
    d most store (Another object) (with_file object (file_gone entry) (state_in store))
    (λ n. IsPlace places n × (IsPageOfAny file.versions n → ⊥))
