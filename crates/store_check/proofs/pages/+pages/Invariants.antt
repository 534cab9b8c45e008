use Rattle.std.proofs.Common.{◌≡◌, ◌*◌, ◌+◌, ◌-◌, ℕ, List, Option, length}
use Rattle.store_model.specs.Laid.{Node}
use Rattle.store_model.specs.Laws.{pages_of}
use Rattle.store_model.specs.Pages.{pages_below}
use Rattle.store_check.specs.Before.{AreBefore, BeforeLies}
use Rattle.store_check.specs.Surveyed.{IsTold, blocks_in}
use Rattle.store_check.proofs.Slots.{SlotsSoFar}
use Rattle.store_check.proofs.pages.+pages.Given as goal

abbrev pub decreases-pages_below : goal.decreases-pages_below
decreases-pages_below g l = 3 * l.depth

abbrev pub decreases-own_pages : goal.decreases-own_pages
decreases-own_pages g l = 3 * l.depth + 1

abbrev pub decreases-slot_pages : goal.decreases-slot_pages
decreases-slot_pages g l = 3 * l.depth + 2

abbrev pub invariant-pages_below-slots : goal.invariant-pages_below-slots
invariant-pages_below-slots g l = record {
  began : l.survey.began ≡ l.fn.survey.began;
  count : l.survey.count ≡ l.fn.survey.count;
  far : IsTold g.B.Blocks l.fn.survey → (nodes : Option (List Node)) (path : List ℕ)
      → BeforeLies (pages_of (g.B.Blocks.content l.fn.survey.began)) l.fn.survey.count nodes → length path + l.fn.depth ≡ 7
      → AreBefore nodes path l.fn.befores
      → SlotsSoFar (blocks_in g.B.Blocks.content l.fn.survey) (pages_below (blocks_in g.B.Blocks.content l.fn.survey) nodes (l.fn.depth - 1)) nodes l.fn.namer path l.fn.refs l.fn.survey.list l.k l.survey.list;
}
