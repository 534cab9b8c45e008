use Rattle.std.proofs.Common.{◌≤◌}
use Rattle.pool_draft.specs.Held.{picked_tree}
use Rattle.pool_draft.proofs.Listing.{tree_from, IsCounted}
use Rattle.pool_draft.proofs.frame_pages.FramePages.fresh.Given as goal

abbrev pub invariant-loop-i : goal.invariant-loop-i
invariant-loop-i l = IsCounted (picked_tree l.self) (tree_from l.self.root l.self.pages l.self.rows l.i) l.before × (l.before ≤ l.k)
