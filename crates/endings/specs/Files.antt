-- The line of a file.
use Rattle.std.specs.Prelude.{ℕ, ◌+◌, ◌-◌, List, [], ◌∷◌, ◌++◌, codes}
use Rattle.std.specs.Fmt.{decimal}
use Rattle.std.specs.List.{flat_map, range_with_len}
use Rattle.script_text.specs.ReplyText.{spaced}

-- the serials from the first to the last that are kept, the first one in any case
abbrev pub kept_serials : ℕ → ℕ → List ℕ
kept_serials first last = first ∷ range_with_len (first + 1) (last - first)

-- the line of an object whose file keeps these versions: each serial stands after a space
abbrev pub file_line : ℕ → ℕ → ℕ → List ℕ
file_line object first last =
    codes "file " ++ (decimal object
    ++ (codes ":" ++ (flat_map spaced (kept_serials first last) ++ 10 ∷ [])))
