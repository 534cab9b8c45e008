use Rattle.std.proofs.Common.{◌≡◌, List, map, length}
use Rattle.store_model.specs.Laws.{pages_of}
use Rattle.store_model.specs.Members.{Top as ModelTop, Linked as ModelLinked}
use Rattle.store_check.specs.Surveyed.{IsTold, blocks_in}
use Rattle.store_check.specs.Tops.{LikeLinked, shown_top}
use Rattle.store_check.proofs.MemberWalk.{TopsWalked}
use Rattle.store_check.proofs.tops.link_tops.Given as goal

abbrev pub invariant-tops : goal.invariant-tops
invariant-tops g l = record {
  began : l.survey.began ≡ l.fn.survey.began;
  count : l.survey.count ≡ l.fn.survey.count;
  size : length l.linked.named.items ≡ length l.linked.chains.items;
  far : IsTold g.B.Blocks l.fn.survey → (models : List ModelTop) (from : ModelLinked)
      → l.fn.tops ≡ map shown_top models → LikeLinked (pages_of (g.B.Blocks.content l.fn.survey.began)) l.fn.survey.count l.fn.survey.list l.fn.linked from
      → TopsWalked (blocks_in g.B.Blocks.content l.fn.survey) (pages_of (g.B.Blocks.content l.fn.survey.began)) l.fn.survey.count models from l.fn.survey.list l.k l.linked l.survey.list;
}
