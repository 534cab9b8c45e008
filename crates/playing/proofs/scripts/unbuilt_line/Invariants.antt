use Rattle.std.proofs.Common.{take}
use Rattle.std.specs.List.{All}
use Rattle.session.specs.Built.{IsBuilt}
use Rattle.playing.proofs.scripts.unbuilt_line.Given as goal

abbrev pub invariant-loop-place : goal.invariant-loop-place
invariant-loop-place l = All (λ line. IsBuilt line.command) (take l.place l.script.lines)
