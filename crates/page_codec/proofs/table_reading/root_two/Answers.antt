-- Every part's block is below the number of blocks.
use Rattle.std.proofs.Common.{ℕ, ◌≤◌, List, subst, sym}
use Rattle.std.specs.Prelude.{Option}
use Rattle.std.specs.List.{AllByRecursion}
use Rattle.page_codec.specs.Values.{EntryValue}
use Rattle.page_codec.specs.Bounds.{IsFirstBelow, IsPartBelow}
use Rattle.page_codec.specs.TableReading.{part_numbers, block_count}
use Rattle.page_codec.proofs.EntryLaws.{parts_near, IsFirstBelow-no_entries}
use Rattle.page_codec.proofs.table_reading.root_two.Goals as goal

pub invariant_of-result : goal.invariant_of-result
invariant_of-result c =
    let b = c.args.block.now in
    let facts = c.requires.facts in
    let near = parts_near (block_count b) (part_numbers b) (facts.two c.requires.two).far in
    let parts = subst (λ (ps : List (Option ℕ)). AllByRecursion (IsPartBelow (block_count b)) ps) (sym c.root_parts.ensures) near in
    record {
      first_format = facts.first_format;
      last_format = facts.last_format;
      least = subst (λ (n : ℕ). 2 ≤ n) (sym c.u32_at.ensures) facts.least;
      most = subst (λ (n : ℕ). n ≤ 65536) (sym c.u32_at.ensures) facts.most;
      parts_below = subst (λ (n : ℕ). AllByRecursion (IsPartBelow n) c.root_parts.result) (sym c.u32_at.ensures) parts;
      first_below = subst (λ (es : List EntryValue). AllByRecursion (IsFirstBelow c.u32_at.result) es) (sym c.no_root_entries.ensures) (IsFirstBelow-no_entries c.u32_at.result 60);
      no_parts = λ h. absurd (c.requires.two h);
      no_first = λ _. c.no_root_entries.ensures;
    }
