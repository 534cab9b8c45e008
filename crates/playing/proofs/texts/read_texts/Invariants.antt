use Rattle.playing.proofs.Sourcing.{AreSoFar}
use Rattle.playing.specs.Taking.{bytes_of}
use Rattle.playing.proofs.texts.read_texts.Given as goal

abbrev pub invariant-loop-place : goal.invariant-loop-place
invariant-loop-place g l = AreSoFar g.S.Source l.fn.sources l.sources l.place
    (bytes_of l.texts.items)
