use Rattle.std.proofs.Common.{◌≡◌, length}
use Rattle.store_model.specs.Laws.{pages_of}
use Rattle.store_check.specs.Surveyed.{IsTold, blocks_in}
use Rattle.store_check.proofs.ListWalk.{FilesSoFar}
use Rattle.store_check.proofs.files.files_from.Given as goal

abbrev pub invariant-files : goal.invariant-files
invariant-files g l = record {
  began : l.survey.began ≡ l.fn.survey.began;
  count : l.survey.count ≡ l.fn.survey.count;
  size : length l.chains.items ≡ l.i;
  far : IsTold g.B.Blocks l.fn.survey
      → FilesSoFar (pages_of (g.B.Blocks.content l.fn.survey.began)) (blocks_in g.B.Blocks.content l.fn.survey) l.fn.rows l.fn.survey.list l.i l.chains.items l.survey.list;
}
