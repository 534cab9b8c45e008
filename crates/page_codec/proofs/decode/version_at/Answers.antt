-- The numbers that must not be 0 are not.
use Rattle.std.proofs.Common.{ℕ, ◌≤◌, subst, sym, ap, ◌∙◌}
use Rattle.std.specs.Prelude.{Option}
use Rattle.page_codec.specs.Values.{PageValue}
use Rattle.page_codec.specs.Bounds.{IsNamed}
use Rattle.page_codec.specs.Reading.{frame_value}
use Rattle.page_codec.proofs.SlotLaws.{IsNamed-or_none}
use Rattle.page_codec.proofs.decode.version_at.Goals as goal

pub invariant_of-result : goal.invariant_of-result
unfolding frame_value
invariant_of-result c = record {
  top = ap (λ (p : PageValue). p.level) c.frame_at.ensures ∙ c.requires.facts.top;
  object = subst (λ (n : ℕ). 1 ≤ n) (sym c.u32_at.ensures) c.requires.facts.object;
  serial = subst (λ (n : ℕ). 1 ≤ n) (sym c.u64_at.ensures) c.requires.facts.serial;
  commit = subst (λ (o : Option ℕ). IsNamed o) (sym c.block_or_none.ensures) (IsNamed-or_none c.u32_at-2.result);
  base = subst (λ (o : Option ℕ). IsNamed o) (sym c.block_or_none-2.ensures) (IsNamed-or_none c.u32_at-3.result);
}
