use Rattle.std.proofs.Common.{◌≡◌}
use Rattle.tree_tests.proofs.walks.draft_on.Given as goal

abbrev pub invariant-loop-step : goal.invariant-loop-step
invariant-loop-step l = l.draft.fed ≡ 0
