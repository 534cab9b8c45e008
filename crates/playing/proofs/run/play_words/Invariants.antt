use Rattle.playing.proofs.RunPlay.{IsAlong}
use Rattle.playing.proofs.run.play_words.Given as goal

abbrev pub invariant-loop-number : goal.invariant-loop-number
invariant-loop-number g l = IsAlong g.B.Blocks l.fn.words l.number-index l.fn.run l.run
