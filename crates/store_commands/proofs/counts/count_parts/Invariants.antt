use Rattle.std.proofs.Common.{◌≡◌, ◌≤◌, count_by}
use Rattle.std.specs.List.{list_any}
use Rattle.page_codec.specs.Bounds.{has_generation}
use Rattle.page_codec.specs.TableSpelling.{part_entries}
use Rattle.tree_model.specs.Trees.{numbers_below}
use Rattle.store_commands.proofs.counts.count_parts.Given as goal

abbrev pub invariant-loop-j : goal.invariant-loop-j
invariant-loop-j l = record {
  count : l.parts ≡ count_by (λ j. list_any has_generation (part_entries j l.entries)) (numbers_below l.j);
  most : l.parts ≤ l.j;
}
