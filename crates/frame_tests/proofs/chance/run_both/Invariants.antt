use Rattle.std.proofs.Common.{◌<◌, ◌≤◌}
use Rattle.frame_tests.proofs.chance.run_both.Given as goal

abbrev pub invariant-loop-fed : goal.invariant-loop-fed
invariant-loop-fed g l =
    ((g.A.Draft.fed_of l.one ≤ l.fed) × (g.A.Draft.count_of l.one < 128) × g.A.Draft.is_ready l.one)
    × ((g.B.Draft.fed_of l.other ≤ l.fed) × (g.B.Draft.count_of l.other < 128) × g.B.Draft.is_ready l.other)
