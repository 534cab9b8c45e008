use Rattle.std.proofs.Common.{◌≡◌}
use Rattle.tree_tests.proofs.walks.meetings.has_pages.Given as goal

abbrev pub invariant-loop-word : goal.invariant-loop-word
invariant-loop-word g l = l.reader.fed ≡ 0
