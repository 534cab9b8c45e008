use Rattle.std.proofs.Common.{◌*◌, ◌+◌}
use Rattle.store_model.specs.Laws.{pages_of}
use Rattle.store_check.specs.Since.{OnlyRead}
use Rattle.tree_listing.specs.Listing.{EachBelowSlots, blocks_of}
use Rattle.tree_listing.specs.Results.{Grows}
use Rattle.tree_listing.specs.Walk.{pages_named}
use Rattle.tree_listing.proofs.Moving.{SlotsListed}
use Rattle.tree_listing.proofs.listing.+pages.Given as goal

abbrev pub decreases-list_page : goal.decreases-list_page
decreases-list_page g l = 3 * l.depth

abbrev pub decreases-list_slots : goal.decreases-list_slots
decreases-list_slots g l = 3 * l.depth + 2

abbrev pub decreases-list_slot : goal.decreases-list_slot
decreases-list_slot g l = 3 * l.depth + 1

abbrev pub invariant-list_slots-slots : goal.invariant-list_slots-slots
invariant-list_slots-slots g l = let b = g.B.Blocks in record {
  only : OnlyRead b l.fn.store l.store;
  grows : Grows l.fn.out.items l.out.items;
  far : SlotsListed (b.tells × EachBelowSlots (b.settled l.fn.store) (pages_of (b.content l.fn.store)) l.fn.refs) (pages_named (blocks_of b.content b.size l.fn.store) l.fn.depth l.fn.namer)
      l.fn.refs l.fn.path l.fn.out.items l.out.items l.k;
}
