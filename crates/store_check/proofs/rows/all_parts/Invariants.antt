use Rattle.std.proofs.Common.{◌≡◌, ◌*◌, length, map}
use Rattle.store_check.specs.Surveyed.{IsTold, blocks_in}
use Rattle.store_check.specs.Rows.{row_of}
use Rattle.store_check.proofs.ListWalk.{SoFar, parts_walk}
use Rattle.store_check.proofs.rows.all_parts.Given as goal

abbrev pub invariant-parts : goal.invariant-parts
invariant-parts g l = record {
  began : l.survey.began ≡ l.fn.survey.began;
  count : l.survey.count ≡ l.fn.survey.count;
  size : length l.rows.items ≡ 63 * l.j;
  far : IsTold g.B.Blocks l.fn.survey
      → SoFar (parts_walk (blocks_in g.B.Blocks.content l.fn.survey)) l.fn.parts 0 l.fn.survey.list l.j (map row_of l.rows.items) l.survey.list;
}
