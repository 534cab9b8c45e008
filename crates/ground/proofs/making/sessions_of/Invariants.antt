use Rattle.std.proofs.Common.{◌≡◌, length}
use Rattle.std.specs.Prelude.{vec_len}
use Rattle.ground.specs.Making.{AreNewcomers}
use Rattle.ground.proofs.making.sessions_of.Given as goal

abbrev pub invariant-loop-script : goal.invariant-loop-script
invariant-loop-script l =
    (goal.iterator-loop-script).can_next l.script-iterator
    × (goal.iterator-loop-script).is_finite l.script-iterator
    × AreNewcomers l.yielded l.sessions.items × (vec_len l.sessions ≡ length l.yielded)
