-- What is counted of a store that was opened, by its table and what is told of the versions of each object.
use Rattle.std.specs.Prelude.{ℕ, ◌+◌, ◌-◌, nat_eq, List, count_by, sum_by, Option, Some, None, is_some, if◌then◌else◌}
use Rattle.std.specs.List.{list_any}
use Rattle.page_codec.specs.Values.{TableValue}
use Rattle.page_codec.specs.Bounds.{has_generation}
use Rattle.page_codec.specs.TableSpelling.{part_entries}
use Rattle.tree_model.specs.Trees.{numbers_below}
use Rattle.afs_base.specs.declared.head.Head.{Head}
use Rattle.store_commands.specs.Texts.{counts_text}

-- how many files there are
abbrev pub heads_live : List (Option Head) → ℕ
heads_live heads = count_by (λ (head : Option Head). is_some head) heads

-- how many versions a file has
abbrev pub head_versions : Option Head → ℕ
head_versions None = 0
head_versions (Some head) = (head.serial - head.first) + 1

abbrev pub heads_versions : List (Option Head) → ℕ
heads_versions heads = sum_by head_versions heads

-- how many blocks they hold
abbrev pub head_kept : Option Head → ℕ
head_kept None = 0
head_kept (Some head) = head.kept

abbrev pub heads_kept : List (Option Head) → ℕ
heads_kept heads = sum_by head_kept heads

-- how many parts of the table have a file, or had one
abbrev pub used_parts : TableValue → ℕ
used_parts table = count_by (λ j. list_any has_generation (part_entries j table.entries)) (numbers_below 64)

-- how many blocks the table has
abbrev pub blocks_of_table : TableValue → ℕ
blocks_of_table table = if nat_eq table.format 1 then 1 else 1 + used_parts table

-- the line of `check`
abbrev pub counted_text : TableValue → List (Option Head) → List ℕ
counted_text table heads =
    counts_text (heads_live heads) (heads_versions heads) (heads_kept heads) (table.blocks - blocks_of_table table - heads_kept heads)
