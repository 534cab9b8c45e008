use Rattle.std.proofs.Common.{◌≡◌, ◌-◌}
use Rattle.store_model.specs.Laid.{LaidVersion}
use Rattle.store_model.specs.Laws.{pages_of}
use Rattle.store_check.specs.Before.{PagesLie}
use Rattle.store_check.specs.Versions.{shown_of}
use Rattle.store_check.specs.Surveyed.{IsTold, blocks_in}
use Rattle.store_check.proofs.ChainWalk.{ChainSoFar}
use Rattle.store_check.proofs.chain.last_from.Given as goal

abbrev pub invariant-versions : goal.invariant-versions
invariant-versions g l = record {
  began : l.survey.began ≡ l.fn.survey.began;
  count : l.survey.count ≡ l.fn.survey.count;
  end : l._step-end ≡ l.fn.survey.count;
  far : IsTold g.B.Blocks l.fn.survey → (laid : LaidVersion)
      → PagesLie (pages_of (g.B.Blocks.content l.fn.survey.began)) l.fn.survey.count laid.block laid.nodes → l.fn.first ≡ shown_of laid
      → ChainSoFar (blocks_in g.B.Blocks.content l.fn.survey) l.fn.object (pages_of (g.B.Blocks.content l.fn.survey.began)) l.fn.survey.count laid l.fn.survey.list
      (l.fn.survey.count - l._step) l.last l.survey.list;
}
