-- In which block the page of a version lies, and with which marks.
use Rattle.std.specs.Prelude.{ℕ, ◌-◌, ◌==◌, List, [], find, Option, Some, None, option_map, Result, Ok, Err, slice_get, if◌then◌else◌}
use Rattle.std.specs.Option.{option_and_then}
use Rattle.ref_flags.specs.Codes.{code_of}
use Rattle.store_model.specs.Walk.{Refused}
use Rattle.store_model.specs.Laid.{Node, LaidFile, page_in}
use Rattle.store_model.specs.Found.{LaidStore, laid}

-- the store, where the walk found one
abbrev pub store_in : Result (LaidStore × List ℕ) Refused → Option LaidStore
store_in (Ok x) = Some x.0
store_in (Err e) = None

-- the file of an object, which counts from 1
abbrev pub file_at : ℕ → LaidStore → Option LaidFile
file_at object store = if object == 0 then None else slice_get store.files (object - 1)

-- the page at a path of a version of an object
abbrev pub node_at : (ℕ → Option (List ℕ)) → ℕ → ℕ → ℕ → List ℕ → Option Node
node_at content most object serial path =
    option_and_then
    (λ version. page_in path version.nodes)
    (option_and_then
    (λ file. find (λ version. version.serial == serial) file.versions)
    (option_and_then (file_at object) (store_in (laid content most []))))

-- the block that holds that page
abbrev pub block_at : (ℕ → Option (List ℕ)) → ℕ → ℕ → ℕ → List ℕ → Option ℕ
block_at content most object serial path = option_map (λ node. node.block) (node_at content most object serial path)

-- The flag code of the reference to it: of `/` that in the version page, of any other page that in the slot of the page above it. Where the
-- version shares the page with the one before, but not the page above, that code is 0.
abbrev pub marks_at : (ℕ → Option (List ℕ)) → ℕ → ℕ → ℕ → List ℕ → Option ℕ
marks_at content most object serial path = option_map (λ node. code_of node.flags) (node_at content most object serial path)

-- the mask of the slots that the update which wrote that page modified
abbrev pub mask_at : (ℕ → Option (List ℕ)) → ℕ → ℕ → ℕ → List ℕ → Option ℕ
mask_at content most object serial path = option_map (λ node. node.modified) (node_at content most object serial path)
