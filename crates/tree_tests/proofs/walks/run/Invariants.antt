use Rattle.std.proofs.Common.{◌<◌, ◌≤◌}
use Rattle.tree_tests.proofs.walks.run.Given as goal

abbrev pub invariant-loop-fed : goal.invariant-loop-fed
invariant-loop-fed l = (l.draft.fed ≤ l._fed) × (l.draft.count < 128)
