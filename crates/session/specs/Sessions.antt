-- A client before its script, and its answers.
use Rattle.std.specs.Prelude.{◌≡◌, ℕ, ◌≤◌, [], length, Some, slice_get}
use Rattle.script_text.specs.ScriptValue.{ScriptValue}
use Rattle.script_text.specs.declared.reply.LineReply.{LineReply}
use Rattle.script_text.specs.declared.script.Line.{Line}
use Rattle.session.specs.Answers.{IsCleared}
use Rattle.session.specs.declared.course.Course.{Course}
use Rattle.session.specs.declared.session.Session.{Session}
use Rattle.session.specs.declared.stage.Stage.TheVariants.{Resting}

-- The client has answered no line, has had no turn and no update open, has merged nothing, and holds
-- no block; there is room for its answers.
pub record IsNewcomer (client : ℕ) (script : ScriptValue) (s : Session) : Type 0 where
  pub its_script : s.script ≡ script
  pub number : s.course.client ≡ client
  pub answers : s.course.replies.items ≡ []
  pub room : length script.lines ≤ s.course.replies.room
  pub drafts : IsCleared s.course.drafts
  pub held : s.course.held ≡ 0
  pub stage : s.course.stage ≡ Resting
  pub turns : s.course.turns ≡ 0
  pub merges : s.merges ≡ 0

-- ---- answers

-- The line at a place of a script, from 0, has this number.
abbrev pub IsNumbered : ScriptValue → ℕ → ℕ → Type 0
IsNumbered script place number =
    (line : Line) × (slice_get script.lines place ≡ Some line) × (line.number ≡ number)

-- The line with this number was answered so.
pub record IsReplyTo (script : ScriptValue) (s : Course) (number : ℕ)
    (reply : LineReply) : Type 0 where
  pub place : ℕ
  pub line : IsNumbered script place number
  pub is : slice_get s.replies.items place ≡ Some reply
