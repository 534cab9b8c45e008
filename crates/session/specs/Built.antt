-- Which lines a client plays.
use Rattle.std.specs.Prelude.{◌≡◌, Bool, true, false}
use Rattle.std.specs.List.{list_all}
use Rattle.script_text.specs.ScriptValue.{ScriptValue}
use Rattle.script_text.specs.declared.command.Command.{Command}
use Rattle.script_text.specs.declared.command.Command.TheVariants.{Begin, Super, Pick, Do, Commit, Abandon, Create, Destroy, Prune, Restrict}
use Rattle.script_text.specs.declared.script.Line.{Line}

-- The lines of updates of one file.
abbrev pub is_built : Command → Bool
is_built (Begin file) = true
is_built (Super files) = false
is_built (Pick place) = true
is_built (Do step) = true
is_built Commit = true
is_built Abandon = true
is_built Create = false
is_built (Destroy file) = false
is_built (Prune file keep) = false
is_built (Restrict file mask) = false

abbrev pub IsBuilt : Command → Type 0
IsBuilt command = is_built command ≡ true

-- A script has no others.
abbrev pub AreBuilt : ScriptValue → Type 0
AreBuilt script = list_all (λ (line : Line). is_built line.command) script.lines ≡ true
