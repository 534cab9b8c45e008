-- More of what the entries of a client note: none at all, one list after another, and the end of a
-- script.
use Rattle.std.specs.Prelude.{◌≡◌, ◌≢◌, ℕ, ◌+◌, false, List, [], ◌∷◌, ◌++◌, length, Some, slice_get}
use Rattle.std.specs.List.{list_any}
use Rattle.script_text.specs.declared.script.Line.{Line}
use Rattle.service_model.specs.declared.journal.Entry.{Entry}
use Rattle.service_model.specs.declared.journal.What.TheVariants.{Answered, GivenUp}
use Rattle.service_model.specs.Entries.{after_entries, without_update}
use Rattle.service_model.specs.Standing.{Scripts, Standing, Client, Update, Upkeep, client_of}
use Rattle.service_model.specs.Standing.{lines_of, next_line}
use Rattle.ground_model.specs.Fronts.{AreOfTurn, is_change}
use Rattle.ground_model.specs.Lines.{Notes, in_line}
use Rattle.ground_model.specs.Own.{IsClient, IsResting}

-- No entries leave a client as it is.
abbrev pub NothingIsNoted : Type 0
NothingIsNoted =
    (scripts : Scripts) (s : Standing) (k : ℕ) → Notes scripts s k [] (client_of s k)

-- Entries that are noted, and those that are noted where they lead, are noted together.
abbrev pub NotesGoOn : Type 0
NotesGoOn =
    (scripts : Scripts) (s : Standing) (k : ℕ) (es fs : List Entry) (c d : Client)
    → Notes scripts s k es c → Notes scripts (after_entries scripts s es) k fs d
    → Notes scripts s k (es ++ fs) d

-- Client k is this one, and its next line is the one after those that it was answered.
pub record IsNow (scripts : Scripts) (s : Standing) (k : ℕ) (c : Client) : Type 0 where
  pub client : IsClient s k
  pub own : client_of s k ≡ c
  pub next : next_line scripts s k ≡ slice_get (lines_of scripts k) (length c.answers)

-- So it is where its entries were noted.
abbrev pub NotesShow : Type 0
NotesShow =
    (scripts : Scripts) (s : Standing) (k : ℕ) (es : List Entry) (c : Client)
    → IsClient s k → Notes scripts s k es c
    → IsNow scripts (after_entries scripts s es) k c

-- It rests there where its line was answered, it holds no block, and it has no maintenance.
abbrev pub NotesRest : Type 0
NotesRest =
    (scripts : Scripts) (s : Standing) (k : ℕ) (es : List Entry) (c : Client)
    → IsClient s k → Notes scripts s k es c → c.noted ≡ [] → c.held ≡ 0
    → ((up : Upkeep) → s.upkeep ≡ Some up → up.client ≢ k)
    → IsResting (after_entries scripts s es) k

-- The last of some entries is the latest one.
abbrev pub LastIsLatest : Type 0
LastIsLatest =
    (scripts : Scripts) (s : Standing) (es : List Entry) (e : Entry)
    → (after_entries scripts s (es ++ e ∷ [])).latest ≡ e.client

-- Entries that carry no moment may be those of any turn.
abbrev pub UntimedAreOfTurn : Type 0
UntimedAreOfTurn = (now : ℕ) (es : List Entry) → list_any is_change es ≡ false → AreOfTurn now es

-- ---- the end of a script

-- These entries of the last line of a client's script are noted, and then its answer.
pub record IsLastAnswer (scripts : Scripts) (s : Standing) (k : ℕ) (line : Line) (es : List Entry)
    (c : Client) : Type 0 where
  pub client : IsClient s k
  pub next : next_line scripts s k ≡ Some line
  pub notes : Notes scripts s k (es ++ in_line k line Answered ∷ []) c
  pub answers : length c.answers ≡ length (client_of s k).answers + 1
  pub all : length c.answers ≡ length (lines_of scripts k)

-- The update that is open then is given up directly after it.
abbrev pub AnswerEnds : Type 0
AnswerEnds =
    (scripts : Scripts) (s : Standing) (k : ℕ) (line : Line) (es : List Entry) (c : Client)
    (u : Update)
    → IsLastAnswer scripts s k line es c → c.update ≡ Some u
    → Notes scripts s k ((es ++ in_line k line Answered ∷ []) ++ in_line k line GivenUp ∷ [])
    (without_update c)
