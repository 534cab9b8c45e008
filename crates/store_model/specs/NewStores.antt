-- Which files a new store holds, and that a store without a table holds none.
use Rattle.std.specs.Prelude.{◌≡◌, ℕ, ◌≤◌, ◌<◌, nat_le, List, [], ◌∷◌, map, Option, Some, None, Ok, Err, if◌then◌else◌}
use Rattle.std.specs.List.{range_with_len}
use Rattle.std.specs.Option.{option_and_then}
use Rattle.std.specs.FinMap as finmap
use Rattle.tree_model.specs.States.{State, File, Version}
use Rattle.page_codec.specs.declared.why.Why.TheVariants.{Closed}
use Rattle.page_codec.specs.Values.{RootValue}
use Rattle.page_codec.specs.Numbers.{zeros}
use Rattle.page_codec.specs.NewStore.{new_root, new_version, secret_of}
use Rattle.page_codec.specs.TableReading.{root_of}
use Rattle.store_model.specs.Found.{found}
use Rattle.store_model.specs.Laws.{read_of}
use Rattle.store_model.specs.Changes.{version_in_block}

-- the table that a block holds, where it holds one
abbrev pub root_in_block : (ℕ → Option (List ℕ)) → ℕ → Option RootValue
root_in_block content block = option_and_then (λ bytes. read_of (root_of bytes)) (content block)

-- block 0 holds the table of a new store of so many files, and each block from 1 to that number the first version of its file
pub record IsNewStore (content : ℕ → Option (List ℕ)) (files blocks key : ℕ) : Type 0 where
  pub table : root_in_block content 0 ≡ Some (new_root files blocks key)
  pub firsts : (n : ℕ) → 1 ≤ n → n ≤ files → version_in_block content n ≡ Some (new_version n)

-- a first version: the page `/` without data
abbrev pub blank_version : Version
blank_version = record { serial = 1; tree = finmap.from_entries (([], []) ∷ []); fresh = [] ∷ [] }

-- a file of a new store, and an entry where no file ever was
abbrev pub new_file : ℕ → ℕ → ℕ → File
new_file files key object =
    if nat_le object files
    then record { generation = 1; secret = secret_of key object 1; versions = blank_version ∷ [] }
    else record { generation = 0; secret = zeros 8; versions = [] }

-- the state of a new store
abbrev pub new_state : ℕ → ℕ → ℕ → State
new_state files blocks key = record { format = 1; blocks = blocks; key = key; files = map (new_file files key) (range_with_len 1 60) }

-- A new store is found as such, whatever its other blocks hold.
abbrev pub NewStoreIsFound : Type 0
NewStoreIsFound =
    (content : ℕ → Option (List ℕ)) (files blocks key most : ℕ) → files < blocks → blocks ≤ most → IsNewStore content files blocks key
    → found content most ≡ Ok (new_state files blocks key)

-- A store whose block 0 holds nothing is refused for that.
abbrev pub ClosedIsRefused : Type 0
ClosedIsRefused =
    (content : ℕ → Option (List ℕ)) (most : ℕ) → content 0 ≡ None → found content most ≡ Err (record { block = 0; why = Closed })
