use Rattle.std.proofs.Common.{List, arith, subst, sym}
use Rattle.std.specs.Prelude.{Option, ℕ}
use Rattle.std.specs.List.{AllByRecursion}
use Rattle.page_codec.specs.Values.{EntryValue}
use Rattle.page_codec.specs.Bounds.{IsFirstBelow, IsPartBelow}
use Rattle.page_codec.proofs.EntryLaws.{IsFirstBelow-no_entries}
use Rattle.new_store.proofs.PartBlocks.{IsPartBelow-part_blocks}
use Rattle.new_store.proofs.table.table_of.Goals as goal

pub invariant_of-result : goal.invariant_of-result
invariant_of-result c =
    let blocks = c.args.store.now.blocks in
    record {
      first_format = omega arith;
      last_format = omega arith;
      least = omega arith;
      most = omega arith;
      parts_below = subst (λ (parts : List (Option ℕ)). AllByRecursion (IsPartBelow blocks) parts) (sym c.part_blocks.ensures) (IsPartBelow-part_blocks c.args.store.now.files blocks c.args.store.now.room);
      first_below = subst (λ (entries : List EntryValue). AllByRecursion (IsFirstBelow blocks) entries) (sym c.no_entries.ensures) (IsFirstBelow-no_entries blocks 60);
      no_parts = λ h. absurd cc;
      no_first = λ h. c.no_entries.ensures;
    }
