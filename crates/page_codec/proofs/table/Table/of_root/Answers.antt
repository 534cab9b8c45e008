-- The entries are those of block 0 in format 1, and none in format 2.
use Rattle.std.proofs.Common.{◌≡◌, ℕ, List, length, cond, eqb, subst, sym, ap, ◌∙◌}
use Rattle.std.specs.Prelude.{Option}
use Rattle.std.specs.List.{AllByRecursion}
use Rattle.page_codec.specs.Values.{EntryValue, RootValue}
use Rattle.page_codec.specs.Blank.{no_entries}
use Rattle.page_codec.specs.Bounds.{IsFirstBelow, IsPartBelow}
use Rattle.page_codec.proofs.EntryLaws.{length-no_entries}
use Rattle.page_codec.proofs.table.Table.of_root.Goals as goal

in_one : (f : ℕ) (xs ys : List EntryValue) → f ≡ 1 → cond (eqb f 1) xs ys ≡ xs
in_one f xs ys h = rw h

in_two : (f : ℕ) (xs ys : List EntryValue) → f ≡ 2 → cond (eqb f 1) xs ys ≡ ys
in_two f xs ys h = rw h

pub invariant_of-result : goal.invariant_of-result
invariant_of-result c =
    let r = c.root.inside in
    let entries = c.in_ok-entries.ensures.items ∙ ap (λ (v : RootValue). cond (eqb v.format 1) v.first (no_entries 4032)) (sym c.root.view_is) in
    record {
      first_format = c.root.invariant.first_format;
      last_format = c.root.invariant.last_format;
      least = c.root.invariant.least;
      most = c.root.invariant.most;
      parts_below = subst (λ (parts : List (Option ℕ)). AllByRecursion (IsPartBelow r.blocks) parts) (sym c.copy_of.ensures) c.root.invariant.parts_below;
      no_parts = λ one. c.copy_of.ensures ∙ c.root.invariant.no_parts one;
      sixty = λ one. c.in_ok-entries.ensures.sixty (sym (ap (λ (v : RootValue). v.format) c.root.view_is) ∙ one);
      whole = λ two. ap length (entries ∙ in_two r.format r.first (no_entries 4032) two) ∙ length-no_entries 4032;
      first_below = λ one. subst (λ (es : List EntryValue). AllByRecursion (IsFirstBelow r.blocks) es) (sym (entries ∙ in_one r.format r.first (no_entries 4032) one)) c.root.invariant.first_below;
    }
