use Rattle.std.proofs.Common.{◌≡◌, ◌<◌, ℕ, slice_get, Some}
use Rattle.script_text.specs.ScriptValue.{ScriptValue}
use Rattle.script_text.specs.declared.script.Line.{Line}
use Rattle.service_model.specs.Sound.{IsSayable}
use Rattle.service_model.proofs.sayable.scripts_are_sayable.Given as goal

-- the lines of the scripts so far may be said
abbrev pub invariant-loop-k : goal.invariant-loop-k
invariant-loop-k l =
    (j : ℕ) (script : ScriptValue) (n : ℕ) (line : Line) → j < l.k → slice_get l.fn.scripts j ≡ Some script
    → slice_get script.lines n ≡ Some line → IsSayable line.command
