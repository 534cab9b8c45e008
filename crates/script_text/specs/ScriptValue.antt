-- What contracts see of a script, and what its type keeps.
use Rattle.std.specs.Prelude.{◌≡◌, ◌<◌, ◌≤◌, List, length, All, AllPairs}
use Rattle.afs_base.specs.declared.limits.TheConstants.{MAX_FILES, MAX_OBJECTS}
use Rattle.script_text.specs.declared.command.FileName.{FileName}
use Rattle.script_text.specs.declared.command.FileName.TheVariants.{Number, Cap}
use Rattle.script_text.specs.declared.command.Command.{Command}
use Rattle.script_text.specs.declared.command.Command.TheVariants.{Begin, Super, Pick, Do, Commit, Abandon, Create, Destroy, Prune, Restrict}
use Rattle.script_text.specs.declared.script.Mode.{Mode}
use Rattle.script_text.specs.declared.script.Mode.TheVariants.{Numbers, Caps}
use Rattle.script_text.specs.declared.script.Line.{Line}
use Rattle.script_text.specs.declared.verdict.TheConstants.{MAX_LINES}

-- a script: how its files are named, and its lines that have an answer
pub record ScriptValue : Type 0 where
  pub mode : Mode
  pub lines : List Line

-- a file is named in the mode's way, a number being one of 1 to 4,032
abbrev pub IsFile : Mode → FileName → Type 0
IsFile Numbers (Number n) = (1 ≤ n) × (n ≤ MAX_OBJECTS)
IsFile Numbers (Cap cap) = ⊥
IsFile Caps (Number n) = ⊥
IsFile Caps (Cap cap) = Unit {0}

-- the numbers of a command lie in their ranges, its files are named in the mode's way, and capabilities are restricted only
-- where files are named by them
abbrev pub IsCommand : Mode → Command → Type 0
IsCommand mode (Begin file) = IsFile mode file
IsCommand mode (Super files) = (2 ≤ length files) × (length files ≤ MAX_FILES) × All (IsFile mode) files
IsCommand mode (Pick k) = k ≤ 16
IsCommand mode (Do step) = Unit {0}
IsCommand mode Commit = Unit {0}
IsCommand mode Abandon = Unit {0}
IsCommand mode Create = Unit {0}
IsCommand mode (Destroy file) = IsFile mode file
IsCommand mode (Prune file keep) = IsFile mode file × (1 ≤ keep)
IsCommand mode (Restrict file mask) = (mode ≡ Caps) × IsFile mode file

-- a line of a script: its number is one of 1 to 1,000
abbrev pub IsLine : Mode → Line → Type 0
IsLine mode line = (1 ≤ line.number) × (line.number ≤ MAX_LINES) × IsCommand mode line.command

-- lines of a script, which ascend
pub record IsScript (mode : Mode) (lines : List Line) : Type 0 where
  pub each : All (IsLine mode) lines
  pub ascending : AllPairs (λ a b. a.number < b.number) lines
  pub few : length lines ≤ MAX_LINES
