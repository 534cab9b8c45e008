-- Every first block is below the number of blocks.
use Rattle.std.proofs.Common.{ℕ, ◌≤◌, List, subst, sym, arith}
use Rattle.std.specs.Prelude.{Option}
use Rattle.std.specs.List.{AllByRecursion}
use Rattle.page_codec.specs.Values.{EntryValue}
use Rattle.page_codec.specs.Bounds.{IsFirstBelow, IsPartBelow}
use Rattle.page_codec.specs.TableReading.{raw_entries, block_count}
use Rattle.page_codec.proofs.NewStoreLaws.{IsPartBelow-no_parts}
use Rattle.page_codec.proofs.EntryLaws.{firsts_below}
use Rattle.page_codec.proofs.table_reading.root_one.Goals as goal

pub invariant_of-result : goal.invariant_of-result
invariant_of-result c =
    let b = c.args.block.now in
    let facts = c.requires.facts in
    let near = firsts_below (block_count b) (raw_entries 60 b) (facts.one c.requires.one).far in
    let entries = subst (λ (es : List EntryValue). AllByRecursion (IsFirstBelow (block_count b)) es) (sym c.root_entries.ensures) near in
    record {
      first_format = omega arith;
      last_format = omega arith;
      least = subst (λ (n : ℕ). 2 ≤ n) (sym c.u32_at.ensures) facts.least;
      most = subst (λ (n : ℕ). n ≤ 65536) (sym c.u32_at.ensures) facts.most;
      parts_below = subst (λ (parts : List (Option ℕ)). AllByRecursion (IsPartBelow c.u32_at.result) parts) (sym c.no_parts.ensures) (IsPartBelow-no_parts c.u32_at.result);
      first_below = subst (λ (n : ℕ). AllByRecursion (IsFirstBelow n) c.root_entries.result) (sym c.u32_at.ensures) entries;
      no_parts = λ _. c.no_parts.ensures;
      no_first = λ h. absurd cc;
    }
