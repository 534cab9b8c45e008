-- The lines of a text that are in the grammar, by what their words say.
use Rattle.std.specs.Prelude.{◌≡◌, ◌⊎◌, ℕ, ◌≤◌, List}
use Rattle.std.specs.List.{All, Contains}
use Rattle.afs_base.specs.declared.limits.TheConstants.{MAX_SCRIPT_BYTES}
use Rattle.script_text.specs.declared.command.Command.{Command}
use Rattle.script_text.specs.declared.refused.ScriptRefused.{ScriptRefused}
use Rattle.script_text.specs.declared.refused.ScriptRefused.TheVariants.{BadLine, Memory}
use Rattle.script_text.specs.declared.script.Mode.{Mode}
use Rattle.script_text.specs.declared.script.Line.{Line}
use Rattle.script_text.specs.declared.verdict.TheConstants.{MAX_LINES}
use Rattle.script_text.specs.Grammar.{RawLine, lines_of}
use Rattle.script_text.specs.Says.{IsRemark, Says}
use Rattle.script_text.specs.Words.{words}

-- a line is in the grammar: it is one of the first thousand, ends within the first 65,536 bytes, has spaces and printable ASCII characters
-- alone, and its words say a command or ask nothing
pub record IsInForm (mode : Mode) (line : RawLine) : Type 0 where
  pub early : line.number ≤ MAX_LINES
  pub within : line.end ≤ MAX_SCRIPT_BYTES
  pub plain : All (λ b. (32 ≤ b) × (b ≤ 126)) line.text
  pub meaning : IsRemark (words line.text) ⊎ ((command : Command) × Says mode (words line.text) command)

-- a text has a line of this number whose words say this command
abbrev pub Asks : Mode → List ℕ → Line → Type 0
Asks mode bytes line = (raw : RawLine) × Contains (lines_of bytes) raw × (raw.number ≡ line.number) × Says mode (words raw.text) line.command

-- a text was refused for a line of this number that is not in the grammar
abbrev pub IsRefusedFor : ScriptRefused → Mode → List ℕ → Type 0
IsRefusedFor (BadLine line why) mode bytes =
    (raw : RawLine) × Contains (lines_of bytes) raw × (raw.number ≡ line) × (IsInForm mode raw → ⊥)
IsRefusedFor Memory mode bytes = Unit {0}
