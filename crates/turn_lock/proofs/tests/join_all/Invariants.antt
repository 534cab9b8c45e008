use Rattle.turn_lock.specs.Passes.{IsIdleAt, AreIdleAt}
use Rattle.turn_lock.proofs.tests.join_all.Given as goal

abbrev pub invariant-loop-other : goal.invariant-loop-other
invariant-loop-other l = IsIdleAt l.first l.lock × AreIdleAt l.others.items l.lock

abbrev pub decreases-loop-other : goal.decreases-loop-other
decreases-loop-other l = goal.left-loop-other l
