use Rattle.pool_draft.specs.Held.{picked_tree}
use Rattle.pool_draft.proofs.Listing.{tree_from, IsCounted}
use Rattle.pool_draft.proofs.frame_pages.FramePages.fresh_count.Given as goal

abbrev pub invariant-loop-k : goal.invariant-loop-k
invariant-loop-k l = IsCounted (picked_tree l.self) (tree_from l.self.root l.self.pages l.self.rows l.k) l.count
