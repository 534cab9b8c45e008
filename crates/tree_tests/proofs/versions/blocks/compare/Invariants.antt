use Rattle.draft_model.specs.Flush.{IsPlaced}
use Rattle.tree_tests.proofs.versions.blocks.compare.Given as goal

abbrev pub invariant-loop-next : goal.invariant-loop-next
invariant-loop-next g l = IsPlaced (g.D.Draft.view l.draft) l.flush.placed
