use Rattle.std.proofs.Common.{◌≡◌, ◌<◌, ℕ, slice_get, Some}
use Rattle.script_text.specs.declared.script.Line.{Line}
use Rattle.service_model.specs.Sound.{IsSayable}
use Rattle.service_model.proofs.sayable.script_is_sayable.Given as goal

-- the lines so far may be said
abbrev pub invariant-loop-i : goal.invariant-loop-i
invariant-loop-i l =
    (n : ℕ) (line : Line) → n < l.i → slice_get l.fn.script.lines n ≡ Some line → IsSayable line.command
