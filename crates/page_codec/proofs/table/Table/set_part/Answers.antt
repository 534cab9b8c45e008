-- One part changed leaves what the table keeps.
use Rattle.std.proofs.Common.{ℕ, ◌<◌, ◌≤◌, set, sym, subst, ap, ◌∙◌, arith}
use Rattle.std.specs.Prelude.{Option, Some}
use Rattle.std.proofs.lemmas.List.Elements.{All-set, All-from_recursion, recursion_from_All}
use Rattle.page_codec.specs.Values.{TableValue}
use Rattle.page_codec.specs.Bounds.{IsPartBelow}
use Rattle.page_codec.proofs.table.Table.set_part.Goals as goal

pub invariant_of-self : goal.invariant_of-self
invariant_of-self c =
    let xs = c.self.inside.parts in
    let kept = c.self.invariant in
    let format = ap (λ (t : TableValue). t.format) c.self.view_is in
    let blocks = ap (λ (t : TableValue). t.blocks) c.self.view_is in
    let near : c.args.part < c.self.inside.blocks = subst (λ (n : ℕ). c.args.part < n) (sym blocks) c.requires.near in
    let named : 1 ≤ c.args.part = c.requires.named in
    let P : Option ℕ → Type 0 = IsPartBelow c.self.inside.blocks in
    record {
      first_format = kept.first_format;
      last_format = kept.last_format;
      least = kept.least;
      most = kept.most;
      parts_below = recursion_from_All P (set xs c.args.j (Some c.args.part)) (All-set P xs c.args.j (Some c.args.part) (omega arith, near) (All-from_recursion P xs kept.parts_below));
      no_parts = λ one. let two = format ∙ c.requires.two in absurd cc;
      sixty = kept.sixty;
      whole = kept.whole;
      first_below = kept.first_below;
    }
