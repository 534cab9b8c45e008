use Rattle.draft_model.specs.Flush.{IsPlaced}
use Rattle.tree_tests.proofs.walks.take_blocks.Given as goal

abbrev pub invariant-loop-turn : goal.invariant-loop-turn
invariant-loop-turn g l = IsPlaced (g.D.Draft.view l.draft) l.flush.placed
