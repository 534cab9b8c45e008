use Rattle.std.proofs.Common.{◌≡◌, length}
use Rattle.store_model.specs.Laws.{pages_of}
use Rattle.store_model.specs.Members.{Top as ModelTop, Linked as ModelLinked}
use Rattle.store_check.specs.Surveyed.{IsTold, blocks_in}
use Rattle.store_check.specs.Tops.{LikeLinked, shown_top}
use Rattle.store_check.proofs.MemberWalk.{MembersSoFar}
use Rattle.store_check.proofs.tops.link_members.Given as goal

abbrev pub invariant-members : goal.invariant-members
invariant-members g l = record {
  began : l.survey.began ≡ l.fn.survey.began;
  count : l.survey.count ≡ l.fn.survey.count;
  size : length l.linked.named.items ≡ length l.linked.chains.items;
  far : IsTold g.B.Blocks l.fn.survey → (model : ModelTop) (from : ModelLinked)
      → l.fn.top ≡ shown_top model → LikeLinked (pages_of (g.B.Blocks.content l.fn.survey.began)) l.fn.survey.count l.fn.survey.list l.fn.linked from
      → MembersSoFar (blocks_in g.B.Blocks.content l.fn.survey) model (pages_of (g.B.Blocks.content l.fn.survey.began)) l.fn.survey.count l.fn.top.members from l.fn.survey.list l.k l.linked l.survey.list;
}
