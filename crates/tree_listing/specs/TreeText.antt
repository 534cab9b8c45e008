-- The text of a tree: a line for each page, in the order of their paths.
use Rattle.std.specs.Prelude.{ℕ, List, [], ◌∷◌, ◌++◌, codes}
use Rattle.std.specs.List.{flat_map}
use Rattle.std.specs.FinMap as map
use Rattle.std.specs.Fmt.{decimal}
use Rattle.hex.specs.Hex.{encode_lower}
use Rattle.tree_model.specs.Trees.{Tree}

-- a slot of a path after a stroke
abbrev pub stroke : ℕ → List ℕ
stroke slot = 47 ∷ decimal slot

-- the text of a path: `/`, or each slot after a stroke, as in `/0/15`
abbrev pub path_text : List ℕ → List ℕ
path_text [] = codes "/"
path_text (slot ∷ slots) = flat_map stroke (slot ∷ slots)

-- data in lower-case hexadecimal, or `-` where there is none
abbrev pub data_word : List ℕ → List ℕ
data_word [] = codes "-"
data_word (b ∷ bs) = encode_lower (b ∷ bs)

-- the line of a page: its path and its data
abbrev pub page_line : List ℕ → List ℕ → List ℕ
page_line path bytes = path_text path ++ (codes " " ++ (data_word bytes ++ codes "\n"))

-- The lines of all pages of a tree. A finite map has its entries in the order of their keys, each key once: `/` first, and a path before its extensions.
abbrev pub tree_text : Tree → List ℕ
tree_text tree = flat_map (λ entry. page_line entry.0 entry.1) (map.entries tree)
