-- Which files a store holds: the state that its blocks stand for, or the first cause for which it is refused.
use Rattle.std.specs.Prelude.{ℕ, nat_le, List, [], map, filter, Option, Result, Ok, Err}
use Rattle.std.specs.FinMap as map
use Rattle.tree_model.specs.States.{State, File, Version}
use Rattle.page_codec.specs.declared.why.Why.TheVariants.{Blocks as TooMany}
use Rattle.page_codec.specs.Values.{RootValue}
use Rattle.page_codec.specs.TableReading.{root_of}
use Rattle.store_model.specs.Walk.{Refused, Walk, ◌>>=◌, ◌>>◌, done, check, decoded, content_at}
use Rattle.store_model.specs.Laid.{LaidVersion, LaidFile}
use Rattle.store_model.specs.Tables.{table_rows, files_from}
use Rattle.store_model.specs.Members.{tops_from, tops_linked}

-- the table and the files of a store as they lie
pub record LaidStore : Type 0 where
  pub root : RootValue
  pub files : List LaidFile

-- The store whose block 0 holds these bytes, on halves of so many blocks.
unfoldable pub laid_from : (ℕ → Option (List ℕ)) → ℕ → List ℕ → Walk LaidStore
laid_from content most bytes = do
  root ← decoded 0 (root_of bytes)
  check (nat_le root.blocks most) 0 TooMany
  rows ← table_rows (record { content = content; count = root.blocks }) root
  files ← files_from (record { content = content; count = root.blocks }) 1 rows
  linked ← tops_linked (record { content = content; count = root.blocks }) (tops_from 1 files) (record { files = files; named = [] })
  done (record { root = root; files = linked.files })

-- the store that these contents stand for
unfoldable pub laid : (ℕ → Option (List ℕ)) → ℕ → Walk LaidStore
laid content most = content_at 0 (content 0) >>= laid_from content most

-- a version's tree has the data of each page; its fresh paths are those of its own pages
abbrev pub version_in : LaidVersion → Version
version_in version =
    record {
      serial = version.serial;
      tree = map.from_entries (map (λ node. (node.path, node.bytes)) version.nodes);
      fresh = map (λ node. node.path) (filter (λ node. node.is_own) version.nodes);
    }

-- a file without its blocks
abbrev pub file_in : LaidFile → File
file_in file = record { generation = file.entry.generation; secret = file.entry.secret; versions = map version_in file.versions }

-- a store without its blocks
abbrev pub state_in : LaidStore → State
state_in store =
    record { format = store.root.format; blocks = store.root.blocks; key = store.root.key; files = map file_in store.files }

-- what a walk came to
abbrev pub state_of : Result (LaidStore × List ℕ) Refused → Result State Refused
state_of (Ok x) = Ok (state_in x.0)
state_of (Err e) = Err e

-- The state that these contents stand for, on halves of so many blocks; or the first cause, and its block.
abbrev pub found : (ℕ → Option (List ℕ)) → ℕ → Result State Refused
found content most = state_of (laid content most [])
