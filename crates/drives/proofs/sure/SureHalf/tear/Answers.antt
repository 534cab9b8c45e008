use Rattle.std.proofs.Common.{ap}
use Rattle.drives.specs.declared.history.Span.{Span}
use Rattle.drives.proofs.Tearing.{torn_each, torn_image, untorn}
use Rattle.drives.proofs.sure.SureHalf.tear.Goals as goal

pub returns-clause-crash : goal.returns-clause-crash
returns-clause-crash c =
    torn_image _ _ c.of.result.value _ _ _ _ c.requires (untorn _ _ _) c.push.ensures (ap (λ (s : Span). s.at) c.of.ensures) (ap (λ (s : Span). s.len) c.of.ensures)

pub returns-clause-crash_all : goal.returns-clause-crash_all
returns-clause-crash_all c =
    torn_each _ _ c.of.result.value _ _ _ _ (untorn _ _ _) c.push.ensures (ap (λ (s : Span). s.at) c.of.ensures) (ap (λ (s : Span). s.len) c.of.ensures)
