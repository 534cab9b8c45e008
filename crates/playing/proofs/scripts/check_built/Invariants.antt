use Rattle.std.proofs.Common.{take}
use Rattle.std.specs.List.{All}
use Rattle.session.specs.Built.{AreBuilt}
use Rattle.playing.proofs.scripts.check_built.Given as goal

abbrev pub invariant-loop-place : goal.invariant-loop-place
invariant-loop-place l = All AreBuilt (take l.place l.scripts)
