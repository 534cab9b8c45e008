use Rattle.std.proofs.Common.{◌≡◌}
use Rattle.tree_tests.proofs.drafts.marks.done.Given as goal

abbrev pub invariant-loop-word : goal.invariant-loop-word
invariant-loop-word g l = l.draft.fed ≡ 0
