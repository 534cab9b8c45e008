use Rattle.std.proofs.Common.{◌≡◌}
use Rattle.frame_tests.proofs.kinds.run_all.Given as goal

abbrev pub invariant-loop-word : goal.invariant-loop-word
invariant-loop-word g l = (g.D.Draft.fed_of l.draft ≡ 0) × g.D.Draft.is_ready l.draft
