use Rattle.std.proofs.Common.{◌∷◌}
use Rattle.pool_draft.proofs.RowTouch.{IsSoFar}
use Rattle.pool_draft.proofs.frame_pages.FramePages.touches_from.Given as goal

abbrev pub invariant-loop-i : goal.invariant-loop-i
invariant-loop-i l = IsSoFar l.self (l.self.root ∷ l.at) l.i
