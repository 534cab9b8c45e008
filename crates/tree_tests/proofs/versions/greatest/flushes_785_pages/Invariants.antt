use Rattle.std.proofs.Common.{◌≡◌}
use Rattle.tree_tests.proofs.versions.greatest.flushes_785_pages.Given as goal

abbrev pub invariant-loop-k : goal.invariant-loop-k
invariant-loop-k g l = l.draft.fed ≡ 0
