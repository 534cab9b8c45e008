use Rattle.draft_model.specs.Flush.{IsPlaced}
use Rattle.tree_tests.proofs.versions.greatest.count_blocks.Given as goal

abbrev pub invariant-loop-count : goal.invariant-loop-count
invariant-loop-count g l = IsPlaced (g.D.Draft.view l.draft) l.flush.placed
