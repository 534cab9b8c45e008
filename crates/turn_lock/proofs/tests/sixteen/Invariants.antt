use Rattle.std.proofs.Common.{◌≡◌, ◌≤◌, vec_len, vec_capacity}
use Rattle.turn_lock.specs.Passes.{IsIdleAt, AreIdleAt}
use Rattle.turn_lock.proofs.tests.sixteen.Given as goal

abbrev pub invariant-loop : goal.invariant-loop
invariant-loop l = IsIdleAt l.first l.lock × AreIdleAt l.passes.items l.lock × (vec_len l.passes ≡ l.counter) × (16 ≤ vec_capacity l.passes)
