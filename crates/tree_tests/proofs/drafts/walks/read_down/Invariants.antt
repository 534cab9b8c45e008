use Rattle.std.proofs.Common.{◌≡◌, ◌<◌}
use Rattle.tree_tests.proofs.drafts.walks.read_down.Given as goal

abbrev pub invariant-loop-level : goal.invariant-loop-level
invariant-loop-level g l = (l.draft.fed ≡ l.level) × (l.draft.count < 128)
