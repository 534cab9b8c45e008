use Rattle.std.proofs.Common.{◌≡◌}
use Rattle.frame_tests.proofs.chance.update_both.Given as goal

abbrev pub invariant-loop-step : goal.invariant-loop-step
invariant-loop-step g l =
    ((g.A.Draft.fed_of l.one ≡ 0) × g.A.Draft.is_ready l.one) × ((g.B.Draft.fed_of l.other ≡ 0) × g.B.Draft.is_ready l.other)
