use Rattle.std.proofs.Common.{◌≡◌, ◌<◌}
use Rattle.pool_draft.specs.Sets.{picked_of, roots_of}
use Rattle.frame_tests.proofs.greatest.the_greatest_update_leaves_frames.Given as goal

abbrev pub invariant-loop-k : goal.invariant-loop-k
invariant-loop-k g l = (roots_of l.set ≡ 17) × (l.set.fed ≡ 0) × (picked_of l.set < roots_of l.set)

abbrev pub invariant-loop-k-2 : goal.invariant-loop-k-2
invariant-loop-k-2 g l = roots_of l.set ≡ 17
