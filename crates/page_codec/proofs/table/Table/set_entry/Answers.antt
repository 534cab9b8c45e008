-- One entry changed leaves what the table keeps.
use Rattle.std.proofs.Common.{ℕ, ◌-◌, set, sym, subst, ap, ◌∙◌, length-set}
use Rattle.std.proofs.lemmas.List.Elements.{All-set, All-from_recursion, recursion_from_All}
use Rattle.page_codec.specs.Values.{EntryValue, TableValue}
use Rattle.page_codec.specs.Bounds.{IsFirstBelow}
use Rattle.page_codec.proofs.table.Table.set_entry.Goals as goal

pub invariant_of-self : goal.invariant_of-self
invariant_of-self c =
    let xs = c.self.inside.entries.items in
    let i = c.args.object - 1 in
    let kept = c.self.invariant in
    let format = ap (λ (t : TableValue). t.format) c.self.view_is in
    let blocks = ap (λ (t : TableValue). t.blocks) c.self.view_is in
    let P : EntryValue → Type 0 = IsFirstBelow c.self.inside.blocks in
    record {
      first_format = kept.first_format;
      last_format = kept.last_format;
      least = kept.least;
      most = kept.most;
      parts_below = kept.parts_below;
      no_parts = kept.no_parts;
      sixty = λ one. length-set xs i c.args.entry ∙ kept.sixty one;
      whole = λ two. length-set xs i c.args.entry ∙ kept.whole two;
      first_below = λ one. recursion_from_All P (set xs i c.args.entry)
          (All-set P xs i c.args.entry (subst (λ (n : ℕ). IsFirstBelow n c.args.entry) (sym blocks) (c.requires.near (sym format ∙ one))) (All-from_recursion P xs (kept.first_below one)));
    }
