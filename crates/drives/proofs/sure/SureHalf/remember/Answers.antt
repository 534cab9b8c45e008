use Rattle.std.proofs.Common.{refl, ap, ◌∙◌}
use Rattle.drives.specs.declared.sure.Moment.{Moment}
use Rattle.drives.proofs.sure.SureHalf.remember.Goals as goal

pub returns : goal.returns
returns c = record {
  moment = c.of-3.result.value;
  past = c.push.ensures;
  past_bytes = ap (λ (m : Moment). m.bytes.value) c.of-3.ensures ∙ c.of.ensures;
  past_spans = ap (λ (m : Moment). m.spans.value) c.of-3.ensures ∙ c.of-2.ensures;
  bytes = refl;
  spans = refl;
  last = refl;
}
