use Rattle.std.proofs.Common.{◌≡◌}
use Rattle.pool_draft.specs.Sets.{roots_of}
use Rattle.frame_tests.proofs.kinds.pool_set.Given as goal

abbrev pub invariant-loop-root : goal.invariant-loop-root
invariant-loop-root l = (roots_of l.set ≡ l._root) × (l.set.fed ≡ 0)
