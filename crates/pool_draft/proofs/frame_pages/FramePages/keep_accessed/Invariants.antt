use Rattle.pool_draft.proofs.Keeping.{IsKeptTo}
use Rattle.pool_draft.proofs.frame_pages.FramePages.keep_accessed.Given as goal

abbrev pub invariant-loop-k : goal.invariant-loop-k
invariant-loop-k l = IsKeptTo l.initial.self l.self l.k

abbrev pub decreases-loop-k : goal.decreases-loop-k
decreases-loop-k l = l.k
