use Rattle.std.proofs.Common.{ℕ, List, arith, subst, sym}
use Rattle.std.specs.Prelude.{Option}
use Rattle.std.specs.List.{AllByRecursion}
use Rattle.page_codec.specs.Values.{EntryValue}
use Rattle.page_codec.specs.Bounds.{IsFirstBelow, IsPartBelow}
use Rattle.page_codec.proofs.NewStoreLaws.{IsFirstBelow-new_entries, IsPartBelow-no_parts}
use Rattle.page_codec.proofs.root.new_root.Goals as goal

pub invariant_of-result : goal.invariant_of-result
invariant_of-result c = record {
  first_format = omega arith;
  last_format = omega arith;
  least = c.requires.least;
  most = c.requires.most;
  parts_below = subst (λ (parts : List (Option ℕ)). AllByRecursion (IsPartBelow c.args.blocks) parts) (sym c.no_parts.ensures) (IsPartBelow-no_parts c.args.blocks);
  first_below = subst (λ (entries : List EntryValue). AllByRecursion (IsFirstBelow c.args.blocks) entries) (sym c.new_entries.ensures) (IsFirstBelow-new_entries c.args.files c.args.blocks c.args.key c.requires.room);
  no_parts = λ _. c.no_parts.ensures;
  no_first = λ h. absurd cc;
}
