use Rattle.std.proofs.Common.{◌+◌, Ok}
use Rattle.playing.specs.Lines.{Finishes, PartCall}
use Rattle.playing.proofs.run.play_ends.Given as goal

abbrev pub invariant-loop-place : goal.invariant-loop-place
invariant-loop-place g l = PartCall g.B.Blocks l.fn.run l.run (λ o. Finishes o 1 (l.place + 1) l.fn.run l.run) (Ok tt)
