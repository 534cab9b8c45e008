use Rattle.turn_lock.specs.Passes.{IsIdleAt}
use Rattle.turn_lock.proofs.tests.count_up.Given as goal

abbrev pub invariant-loop : goal.invariant-loop
invariant-loop g l = IsIdleAt l.pass l.lock
