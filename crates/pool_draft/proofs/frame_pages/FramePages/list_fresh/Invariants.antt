use Rattle.draft_tree.proofs.Fresh.{IsListed}
use Rattle.pool_draft.specs.Held.{picked_tree}
use Rattle.pool_draft.proofs.Listing.{tree_from}
use Rattle.pool_draft.proofs.frame_pages.FramePages.list_fresh.Given as goal

abbrev pub invariant-loop-k : goal.invariant-loop-k
invariant-loop-k l = IsListed (picked_tree l.self) (tree_from l.self.root l.self.pages l.self.rows l.k) l.into.items
