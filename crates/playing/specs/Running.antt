-- What is printed of a run that was played.
use Rattle.std.specs.Prelude.{◌≡◌, ℕ, List, [], map, Option, slice_get, unwrap_or}
use Rattle.std.specs.Option.{option_map}
use Rattle.script_text.specs.declared.reply.LineReply.{LineReply}
use Rattle.script_text.specs.declared.script.Line.{Line}
use Rattle.script_text.specs.ScriptValue.{ScriptValue}
use Rattle.service_model.specs.Standing.{Client, Standing}
use Rattle.playing.specs.Files.{AreToldOf}

-- the lines of the client at a place, from 0
abbrev pub lines_of : List ScriptValue → ℕ → List Line
lines_of scripts place =
    unwrap_or (option_map (λ (s : ScriptValue). s.lines) (slice_get scripts place)) []

-- the answers to them
abbrev pub answers_of : List (List LineReply) → ℕ → List LineReply
answers_of answers place = unwrap_or (slice_get answers place) []

-- these clients were answered so
abbrev pub AreAnswered : List (List LineReply) → List Client → Type 0
AreAnswered answers clients = map (λ (c : Client). c.answers) clients ≡ answers

-- what stands after a run, by its answers and by what is told of its files
pub record IsShown (answers : List (List LineReply)) (told : List (Option (ℕ × ℕ))) (s : Standing)
    : Type 0 where
  pub answered : AreAnswered answers s.clients
  pub files : AreToldOf told s.state.files
