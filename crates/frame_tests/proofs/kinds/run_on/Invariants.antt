use Rattle.std.proofs.Common.{◌<◌, ◌≤◌}
use Rattle.frame_tests.proofs.kinds.run_on.Given as goal

abbrev pub invariant-loop-fed : goal.invariant-loop-fed
invariant-loop-fed g l = (g.D.Draft.fed_of l.draft ≤ l._fed) × (g.D.Draft.count_of l.draft < 128) × g.D.Draft.is_ready l.draft
