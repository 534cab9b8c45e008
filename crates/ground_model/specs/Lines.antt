-- The entries of a client's line, and what stands after them.
use Rattle.std.specs.Prelude.{◌≡◌, ℕ, ◌-◌, List, [], ◌∷◌, ◌++◌, map, Option, Some, None, slice_set}
use Rattle.script_text.specs.declared.command.Command.TheVariants.{Begin, Do, Abandon, Pick}
use Rattle.script_text.specs.declared.command.FileName.{FileName}
use Rattle.script_text.specs.declared.reply.LineRefusal.{LineRefusal}
use Rattle.script_text.specs.declared.reply.LineReply.{LineReply}
use Rattle.script_text.specs.declared.reply.LineReply.TheVariants as reply
use Rattle.script_text.specs.declared.script.Line.{Line}
use Rattle.service_model.specs.declared.journal.Entry.{Entry}
use Rattle.service_model.specs.declared.journal.What.{What}
use Rattle.service_model.specs.declared.journal.What.TheVariants.{Began, GivenUp, Answered}
use Rattle.service_model.specs.Causes.{cause_of}
use Rattle.service_model.specs.Entries.{after_entries, bases_of, opened, with_step}
use Rattle.service_model.specs.Legal.{IsLegalFrom}
use Rattle.service_model.specs.Replies.{step_reply}
use Rattle.service_model.specs.Standing.{Scripts, Standing, Client, Update, client_of, next_line}
use Rattle.tree_model.specs.declared.step.Step.{Step}
use Rattle.ground_model.specs.Own.{IsResting}

-- An entry of client k in its line.
abbrev pub in_line : ℕ → Line → What → Entry
in_line k line what = record { client = k; line = line.number; what = what }

-- What stands differs by client k alone, which is this one now.
pub record Becomes (k : ℕ) (c : Client) (s t : Standing) : Type 0 where
  pub clients : t.clients ≡ slice_set s.clients (k - 1) c
  pub state : t.state ≡ s.state
  pub made : t.made ≡ s.made
  pub upkeep : t.upkeep ≡ s.upkeep

-- These entries are legal where s stands, and client k becomes this one by them.
pub record Notes (scripts : Scripts) (s : Standing) (k : ℕ) (es : List Entry)
    (c : Client) : Type 0 where
  pub legal : IsLegalFrom scripts s es
  pub becomes : Becomes k c s (after_entries scripts s es)

-- The client rests, and this is its next line.
pub record IsAt (scripts : Scripts) (s : Standing) (k : ℕ) (line : Line) : Type 0 where
  pub resting : IsResting s k
  pub next : next_line scripts s k ≡ Some line

-- A client with one answer more, and with this update.
abbrev pub answering : Client → LineReply → Option Update → Client
answering c reply update =
    record c { answers = c.answers ++ reply ∷ []; update = update; noted = [] }

-- ---- lines that change nothing but their client

-- A line that is refused before anything is done for it is answered by its first cause.
abbrev pub RefusedIsNoted : Type 0
RefusedIsNoted =
    (scripts : Scripts) (s : Standing) (k : ℕ) (line : Line) → IsAt scripts s k line
    → (cause : LineRefusal) → cause_of s k line.command ≡ Some cause
    → Notes scripts s k (in_line k line Answered ∷ [])
    (answering (client_of s k) (reply.Refused cause) (client_of s k).update)

-- A line that opens an update of one file notes the base, and is answered by its serial.
abbrev pub BeginIsNoted : Type 0
BeginIsNoted =
    (scripts : Scripts) (s : Standing) (k : ℕ) (line : Line) (file : FileName)
    → IsAt scripts s k line
    → line.command ≡ Begin file → cause_of s k line.command ≡ None
    → Notes scripts s k
    (in_line k line (Began (bases_of (opened s.state line.command))) ∷ in_line k line Answered ∷ [])
    (answering (client_of s k)
    (reply.Base (map (λ n. n.serial) (bases_of (opened s.state line.command))))
    (Some (opened s.state line.command)))

-- A step of an open update is answered as on the tree after the steps before it, and belongs to the
-- update.
abbrev pub StepIsNoted : Type 0
StepIsNoted =
    (scripts : Scripts) (s : Standing) (k : ℕ) (line : Line) → IsAt scripts s k line
    → (step : Step) → line.command ≡ Do step → cause_of s k line.command ≡ None
    → (u : Update) → (client_of s k).update ≡ Some u
    → (answer : LineReply) → step_reply step u ≡ Some answer
    → Notes scripts s k (in_line k line Answered ∷ [])
    (answering (client_of s k) answer (Some (with_step step u)))

-- A file of an open update is picked: the next steps go to it.
abbrev pub PickIsNoted : Type 0
PickIsNoted =
    (scripts : Scripts) (s : Standing) (k : ℕ) (line : Line) → IsAt scripts s k line
    → (place : ℕ) → line.command ≡ Pick place → cause_of s k line.command ≡ None
    → (u : Update) → (client_of s k).update ≡ Some u
    → Notes scripts s k (in_line k line Answered ∷ [])
    (answering (client_of s k) reply.Picked (Some (record u { picked = place })))

-- An update that is given up is over.
abbrev pub AbandonIsNoted : Type 0
AbandonIsNoted =
    (scripts : Scripts) (s : Standing) (k : ℕ) (line : Line) → IsAt scripts s k line
    → line.command ≡ Abandon
    → (u : Update) → (client_of s k).update ≡ Some u
    → Notes scripts s k (in_line k line GivenUp ∷ in_line k line Answered ∷ [])
    (answering (client_of s k) reply.Abandoned None)
