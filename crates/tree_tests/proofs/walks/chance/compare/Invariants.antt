use Rattle.std.proofs.Common.{◌≡◌}
use Rattle.tree_tests.proofs.walks.chance.compare.Given as goal

abbrev pub invariant-loop-k : goal.invariant-loop-k
invariant-loop-k g l = l.reader.fed ≡ 0

abbrev pub invariant-loop-step : goal.invariant-loop-step
invariant-loop-step g l = l.reader.fed ≡ 0
