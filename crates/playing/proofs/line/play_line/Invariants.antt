use Rattle.playing.proofs.LinePlay.{Going}
use Rattle.playing.proofs.line.play_line.Given as goal

abbrev pub invariant-loop : goal.invariant-loop
invariant-loop g l = Going g.B.Blocks l.fn.run l.run l.fn.client l.counter
