use Rattle.playing.proofs.RunPlay.{IsClimbing}
use Rattle.playing.proofs.run.play_client.Given as goal

abbrev pub invariant-loop : goal.invariant-loop
invariant-loop g l = IsClimbing g.B.Blocks l.fn.client l.counter l.fn.run l.run
