-- How lines end.
use Rattle.std.specs.Prelude.{◌≡◌, ℕ, zero, suc, ◌+◌, ◌==◌, Bool, true, false, List, [], ◌∷◌, ◌++◌, length, Some}
use Rattle.pair_store.specs.declared.store.Blocks.{Ghosts}
use Rattle.pool_draft.specs.Sets.{roots_of}
use Rattle.pool_draft.specs.declared.pool_set.PoolSet.{PoolSet}
use Rattle.script_text.specs.ScriptValue.{ScriptValue}
use Rattle.script_text.specs.declared.command.Command.{Command}
use Rattle.script_text.specs.declared.reply.LineRefusal.{LineRefusal}
use Rattle.script_text.specs.declared.reply.LineReply.{LineReply}
use Rattle.script_text.specs.declared.script.Line.{Line}
use Rattle.service_model.specs.declared.journal.Entry.{Entry}
use Rattle.service_model.specs.declared.journal.Refusal.{Refusal}
use Rattle.service_model.specs.declared.journal.What.TheVariants.{Answered, GivenUp, Refused}
use Rattle.service_model.specs.Causes.{cause_of}
use Rattle.service_model.specs.Entries.{mode_of}
use Rattle.service_model.specs.Legal.{IsLawfulWhat}
use Rattle.service_model.specs.Order.{IsDue}
use Rattle.service_model.specs.Standing.{Scripts}
use Rattle.ground_model.specs.Lines.{in_line}
use Rattle.ground_model.specs.Scenes.{Scene}
use Rattle.super_files.specs.Locks.{without}
use Rattle.super_files.specs.declared.locks.Lock.{Lock}
use Rattle.session.specs.Calls.{IsIn}
use Rattle.session.specs.Own.{IsAtRest, IsCommitting}
use Rattle.session.specs.Safe.{line_of}
use Rattle.session.specs.Values.{IsNoted}
use Rattle.session.specs.declared.common.Common.{Common}
use Rattle.session.specs.declared.course.Course.{Course}
use Rattle.tree_model.specs.States.{State}

-- The next line has this command.
pub record IsAtCommand (script : ScriptValue) (s : Course) (command : Command) : Type 0 where
  pub line : Line
  pub next : line_of script s ≡ Some line
  pub is : line.command ≡ command

-- ---- entries

-- These entries were noted, and nothing else of what is shared changed.
pub record NotesAlone {D : Type 0} (c c' : Common D) (es : List Entry) : Type 0 where
  pub only : c' ≡ record c { log = c'.log }
  pub noted : IsNoted c.log c'.log es

-- An update is open and its client's last line is answered: it is given up.
abbrev pub gives_up : ScriptValue → Course → ℕ → Bool
gives_up script s zero = false
gives_up script s (suc n) = length s.replies.items + 1 == length script.lines

-- The entries by which a line is answered.
abbrev pub ending : ℕ → Line → Bool → List Entry
ending k line false = in_line k line Answered ∷ []
ending k line true = in_line k line Answered ∷ in_line k line GivenUp ∷ []

-- An update ended or not: with it go the locks of its client.
abbrev pub locks_left : ℕ → List Lock → Bool → List Lock
locks_left k locks false = locks
locks_left k locks true = without k locks

-- These entries were noted, and these locks stand; nothing else of what is shared changed.
pub record EndsAlone {D : Type 0} (c c' : Common D) (es : List Entry)
    (locks : List Lock) : Type 0 where
  pub only : c' ≡ record c { log = c'.log; locks = locks }
  pub noted : IsNoted c.log c'.log es

-- A set without drafts.
pub record IsCleared (set : PoolSet) : Type 0 where
  pub none : roots_of set ≡ 0
  pub count : set.count ≡ 0
  pub fed : set.fed ≡ 0

-- The drafts after the end of a line.
abbrev pub AreLeft : PoolSet → PoolSet → Bool → Type 0
AreLeft old new false = new ≡ old
AreLeft old new true = IsCleared new

-- The drafts were let go of, and the locks of the client: nothing else changed.
pub record LetsGo {D : Type 0} (c c' : Common D) (s s' : Course) : Type 0 where
  pub locks : c' ≡ record c { locks = without s.client c.locks }
  pub only : s' ≡ record s { drafts = s'.drafts }
  pub cleared : IsCleared s'.drafts

-- The next line was answered so, and a client whose last line that is gave up its update.
pub record IsAnswered {D : Type 0} (script : ScriptValue) (line : Line) (reply : LineReply)
    (c c' : Common D) (s s' : Course) : Type 0 where
  pub noted : EndsAlone c c' (ending s.client line (gives_up script s (roots_of s.drafts)))
      (locks_left s.client c.locks (gives_up script s (roots_of s.drafts)))
  pub drafts : AreLeft s.drafts s'.drafts (gives_up script s (roots_of s.drafts))
  pub only : s' ≡ record s {
    replies = record s.replies { items = s.replies.items ++ reply ∷ [] };
    drafts = s'.drafts;
    turns = 0;
  }

-- ---- why lines are refused

-- Whatever scene the run stands in, the next line is refused for this cause.
abbrev pub IsCaused : {D : Type 0} → Ghosts D → ScriptValue → Common D → Course → LineRefusal
    → Type 0
IsCaused b script c s why =
    (opening : State) (scripts : Scripts) (first : ℕ) (scene : Scene)
    → IsIn b IsAtRest script c s opening scripts first scene
    → (line : Line) → line_of script s ≡ Some line
    → cause_of scene.standing s.client line.command ≡ Some why

-- A commit may be refused for this, and no earlier cause stands.
pub record MayRefuse (scripts : Scripts) (scene : Scene) (script : ScriptValue) (s : Course)
    (why : Refusal) : Type 0 where
  pub lawful : (line : Line) → line_of script s ≡ Some line
      → IsLawfulWhat (mode_of scripts s.client) scene.standing s.client line.command (Refused why)
  pub due : IsDue scene.standing s.client (Refused why)

-- The client commits an update in which something was written, and its commit may be refused for
-- this.
pub record IsRefusing (why : Refusal) (scripts : Scripts) (scene : Scene) (script : ScriptValue)
    (s : Course) : Type 0 where
  pub committing : IsCommitting scripts scene script s
  pub may : MayRefuse scripts scene script s why
