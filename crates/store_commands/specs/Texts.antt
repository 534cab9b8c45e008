-- What the commands print of a state.
use Rattle.std.specs.Prelude.{ℕ, ◌-◌, List, [], ◌∷◌, ◌++◌, length, codes, count_by, sum_by, Option, Some, None}
use Rattle.std.specs.Fmt.{decimal}
use Rattle.std.specs.List.{flat_map, range_with_len}
use Rattle.hex.specs.Hex.{encode_lower}
use Rattle.caps.specs.Grant.{SealValue, capability_of}
use Rattle.service_model.specs.Standing.{kept_blocks, seal_in}
use Rattle.tree_model.specs.States.{State, File, is_live, table_blocks}

-- the line of a new file
abbrev pub new_file_line : ℕ → List ℕ
new_file_line object = codes "file " ++ (decimal object ++ 10 ∷ [])

-- the lines of so many new files, object 1 first
abbrev pub new_files_text : ℕ → List ℕ
new_files_text files = flat_map new_file_line (range_with_len 1 files)

-- how many files are live
abbrev pub live_count : State → ℕ
live_count state = count_by is_live state.files

-- how many versions are kept, of all files
abbrev pub version_count : State → ℕ
version_count state = sum_by (λ (file : File). length file.versions) state.files

-- how many blocks the kept versions hold: each counts its fresh paths
abbrev pub kept_count : State → ℕ
kept_count state = sum_by kept_blocks state.files

-- how many blocks are free: those that neither the table nor a kept version has
abbrev pub free_count : State → ℕ
free_count state = state.blocks - table_blocks state - kept_count state

-- the line with these four numbers
abbrev pub counts_text : ℕ → ℕ → ℕ → ℕ → List ℕ
counts_text files versions blocks free =
    codes "files " ++ (decimal files ++ (codes " versions " ++ (decimal versions ++ (codes " blocks " ++ (decimal blocks ++ (codes " free " ++ (decimal free ++ 10 ∷ [])))))))

-- what `check` prints
abbrev pub check_text : State → List ℕ
check_text state = counts_text (live_count state) (version_count state) (kept_count state) (free_count state)

-- the line of a capability, where there is a seal
abbrev pub sealed_text : ℕ → ℕ → Option SealValue → List ℕ
sealed_text object rights None = codes "denied object" ++ 10 ∷ []
sealed_text object rights (Some seal) = codes "cap " ++ (encode_lower (capability_of seal object rights) ++ 10 ∷ [])

-- what `cap` prints: the capability of an object with these rights, where the object is live
abbrev pub cap_text : ℕ → ℕ → State → List ℕ
cap_text object rights state = sealed_text object rights (seal_in state object)
