use Rattle.std.proofs.Common.{◌≡◌, ◌+◌, length}
use Rattle.frame_pool.specs.Leasing.{left}
use Rattle.pool_draft.proofs.frame_pages.FramePages.clear.Given as goal

abbrev pub invariant-loop-k : goal.invariant-loop-k
invariant-loop-k l = (length l.self.rows + l.k ≡ l.count)
    × (length l.self.rows + left l.self.run ≡ length l.initial.self.rows + left l.initial.self.run)
    × (l.self.pages ≡ l.initial.self.pages)
    × (l.self.root ≡ l.initial.self.root)
