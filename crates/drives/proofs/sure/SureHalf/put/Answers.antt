use Rattle.std.proofs.Common.{ap}
use Rattle.drives.specs.declared.history.Span.{Span}
use Rattle.drives.proofs.Tearing.{torn_each, torn_image}
use Rattle.drives.proofs.sure.SureHalf.put.Goals as goal

pub returns-clause-crash : goal.returns-clause-crash
returns-clause-crash c =
    torn_image _ _ c.of.result.value _ _ _ _ c.requires.fits c.write_over.ensures.range c.push.ensures (ap (λ (s : Span). s.at) c.of.ensures) (ap (λ (s : Span). s.len) c.of.ensures)

pub returns-clause-crash_all : goal.returns-clause-crash_all
returns-clause-crash_all c =
    torn_each _ _ c.of.result.value _ _ _ _ c.write_over.ensures.range c.push.ensures (ap (λ (s : Span). s.at) c.of.ensures) (ap (λ (s : Span). s.len) c.of.ensures)
