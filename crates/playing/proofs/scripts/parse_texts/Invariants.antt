use Rattle.std.proofs.Common.{take}
use Rattle.playing.specs.Parsing.{AreSaid}
use Rattle.playing.specs.Taking.{bytes_of}
use Rattle.playing.proofs.scripts.parse_texts.Given as goal

abbrev pub invariant-loop-place : goal.invariant-loop-place
invariant-loop-place l = AreSaid (bytes_of (take l.place l.texts)) l.scripts.items
