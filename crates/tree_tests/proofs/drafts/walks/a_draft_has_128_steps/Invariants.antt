use Rattle.std.proofs.Common.{◌≡◌}
use Rattle.tree_tests.proofs.drafts.walks.a_draft_has_128_steps.Given as goal

abbrev pub invariant-loop-round : goal.invariant-loop-round
invariant-loop-round g l = l.draft.fed ≡ 0
