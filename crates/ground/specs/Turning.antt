-- What a turn of a run comes to.
use Rattle.std.specs.Prelude.{◌≡◌, ◌≢◌, ℕ, ◌-◌, ◌^◌, ◌<◌, ◌≤◌, List, [], ◌∷◌, ◌++◌, length, Option, Some, None, Ok, option_and_then, slice_get}
use Rattle.std.specs.Option.{option_map_or}
use Rattle.drives.specs.declared.device.Half.{Half}
use Rattle.ground_model.specs.Opened.{IsOpenedFrom}
use Rattle.ground_model.specs.Bounds.{line_bound}
use Rattle.ground_model.specs.Fronts.{AreOfTurn}
use Rattle.page_codec.specs.declared.why.Why.{Why}
use Rattle.page_merge.specs.Jobs.{JobValue}
use Rattle.pair_store.specs.declared.store.Blocks.{Ghosts}
use Rattle.recovery.specs.Opening.{IsFailed}
use Rattle.script_text.specs.declared.reply.LineReply.{LineReply}
use Rattle.script_text.specs.declared.script.Line.{Line}
use Rattle.service_model.specs.declared.journal.Entry.{Entry}
use Rattle.service_model.specs.Entries.{standing_after}
use Rattle.service_model.specs.Legal.{IsLegalFrom}
use Rattle.service_model.specs.Standing.{Standing, lines_of}
use Rattle.play_order.specs.Orders.{IsBetween}
use Rattle.session.specs.Calls.{waiting_in}
use Rattle.session.specs.Ends.{AreOf}
use Rattle.session.specs.Sessions.{IsReplyTo}
use Rattle.session.specs.Values.{one_more}
use Rattle.session.specs.Walks.{CountsMerge}
use Rattle.session.specs.declared.session.Session.{Session}
use Rattle.session.specs.declared.turned.Fault.{Fault}
use Rattle.session.specs.declared.turned.Fault.TheVariants.{Drive, Bad}
use Rattle.session.specs.declared.turned.Turned.{Turned}
use Rattle.session.specs.declared.turned.Turned.TheVariants as turned
use Rattle.store_model.specs.Found.{found}
use Rattle.tree_model.specs.States.{State}
use Rattle.ground.specs.Runs.{GroundValue, entries_in, own_merges_in, scripts_in, store_in}

-- ---- clients

-- A client by its number, and what its lines were answered so far.
abbrev pub session_of : {D : Type 0} → GroundValue D → ℕ → Option Session
session_of g k = slice_get g.sessions (k - 1)

abbrev pub replies_of : {D : Type 0} → GroundValue D → ℕ → List LineReply
replies_of g k = option_map_or (λ (s : Session). s.course.replies.items) (session_of g k) []

-- All lines of a client are answered.
abbrev pub IsThrough : {D : Type 0} → GroundValue D → ℕ → Type 0
IsThrough g k = length (replies_of g k) ≡ length (lines_of (scripts_in g) k)

-- ---- what stays

-- The run is one over the same store as it was opened, of the same scripts, and on as many blocks.
pub record IsSameRun {D : Type 0} (b : Ghosts D) (g g' : GroundValue D) : Type 0 where
  pub opened : g'.opened ≡ g.opened
  pub scripts : scripts_in g' ≡ scripts_in g
  pub size : b.size (store_in g') ≡ b.size (store_in g)

-- The faults that came are not forgotten.
pub record AreLater {D : Type 0} (b : Ghosts D) (g g' : GroundValue D) : Type 0 where
  pub faults : (h : Half) → b.faults (store_in g) h ≤ b.faults (store_in g') h
  pub last : (h : Half) → b.last_fault (store_in g) h ≤ b.last_fault (store_in g') h

-- ---- answers

-- The fault that a turn answers.
abbrev pub fault_of : Turned → Option Fault
fault_of (turned.Line n) = None
fault_of turned.Again = None
fault_of (turned.Work job) = None
fault_of turned.Finished = None
fault_of (turned.Stopped fault) = Some fault

-- The next line of a client, which has this number, was answered.
pub record IsAnswering {D : Type 0} (g g' : GroundValue D) (k n : ℕ) : Type 0 where
  pub line : Line
  pub next : slice_get (lines_of (scripts_in g) k) (length (replies_of g k)) ≡ Some line
  pub number : n ≡ line.number
  pub reply : LineReply
  pub more : replies_of g' k ≡ replies_of g k ++ reply ∷ []

-- The two pages of a client that wait to be merged.
abbrev pub waiting_of : {D : Type 0} → GroundValue D → ℕ → Option JobValue
waiting_of g k = option_and_then (λ (s : Session). waiting_in s.course.stage) (session_of g k)

-- By its answer, what a turn did to the client's own answers, and which of its pages wait.
abbrev pub AnswersTurn : {D : Type 0} → GroundValue D → GroundValue D → ℕ → Turned → Type 0
AnswersTurn g g' k (turned.Line n) = IsAnswering g g' k n
AnswersTurn g g' k turned.Again = replies_of g' k ≡ replies_of g k
AnswersTurn g g' k (turned.Work job) =
    (replies_of g' k ≡ replies_of g k) × (waiting_of g' k ≡ Some job)
AnswersTurn g g' k turned.Finished = IsThrough g k × (g' ≡ g)
AnswersTurn g g' k (turned.Stopped fault) = replies_of g' k ≡ replies_of g k

-- How many turns of a client's line under way ended with it going on.
abbrev pub turns_of : {D : Type 0} → GroundValue D → ℕ → ℕ
turns_of g k = option_map_or (λ (s : Session). s.course.turns) (session_of g k) 0

-- They are counted.
abbrev pub CountsTurns : {D : Type 0} → GroundValue D → GroundValue D → ℕ → Turned → Type 0
CountsTurns g g' k (turned.Line n) = turns_of g' k ≡ 0
CountsTurns g g' k turned.Again = turns_of g' k ≡ one_more (turns_of g k)
CountsTurns g g' k (turned.Work job) = turns_of g' k ≡ one_more (turns_of g k)
CountsTurns g g' k turned.Finished = turns_of g' k ≡ turns_of g k
CountsTurns g g' k (turned.Stopped fault) = Unit {0}

-- How many pairs of pages a client merged itself.
abbrev pub merges_of : {D : Type 0} → GroundValue D → ℕ → ℕ
merges_of g k = option_map_or (λ (s : Session). s.merges) (session_of g k) 0

-- The client counts those of its waiting pages that it merges itself, and so they count for the run.
pub record CountsMerges {D : Type 0} (g g' : GroundValue D) (k : ℕ)
    (offer : Option JobValue) : Type 0 where
  pub client : CountsMerge (waiting_of g k) offer (merges_of g k) (merges_of g' k)
  pub run : CountsMerge (waiting_of g k) offer (own_merges_in g) (own_merges_in g')

-- The other clients are as they were.
abbrev pub OthersStay : {D : Type 0} → GroundValue D → GroundValue D → ℕ → Type 0
OthersStay g g' k = (j : ℕ) → 1 ≤ j → j ≢ k → session_of g' j ≡ session_of g j

-- The line of a client that has this number was answered so.
pub record IsAnswered {D : Type 0} (g : GroundValue D) (k number : ℕ)
    (reply : LineReply) : Type 0 where
  pub client : Session
  pub is : session_of g k ≡ Some client
  pub answer : IsReplyTo client.script client.course number reply

-- ---- where contents are told

-- The run is over a store as an opening leaves it, whose contents are told, and in which this state
-- was found. Of images it is said what a crash from the moment `first` on leaves: where nothing was
-- pending that is the moment at which the opening began, and else one that never comes.
pub record IsRunOf {D : Type 0} (b : Ghosts D) (g : GroundValue D) (opening : State) : Type 0 where
  pub tells : b.tells
  pub first : ℕ
  pub opened : IsOpenedFrom b g.opened first
  pub found : found (b.content g.opened.store) (b.size g.opened.store) ≡ Ok opening

-- Entries came to the journal: they are of this client, legal and due where the journal stood, and
-- those that change the state carry the moment as the turn returned.
pub record HasNoted {D : Type 0} (b : Ghosts D) (opening : State) (g g' : GroundValue D)
    (k : ℕ) : Type 0 where
  pub es : List Entry
  pub entries : entries_in g' ≡ entries_in g ++ es
  pub of_client : AreOf (scripts_in g) (standing_after opening (scripts_in g) (entries_in g)) k es
  pub legal : IsLegalFrom (scripts_in g)
      (standing_after opening (scripts_in g) (entries_in g)) es
  pub moments : AreOfTurn (b.moment (store_in g')) es

-- What stands now, as the journal says.
abbrev pub standing_of : {D : Type 0} → State → GroundValue D → Standing
standing_of opening g = standing_after opening (scripts_in g) (entries_in g)

-- The turns of a client's line are within the line's bound, which is a small number.
pub record IsTimely {D : Type 0} (opening : State) (g : GroundValue D) (k : ℕ) : Type 0 where
  pub within : turns_of g k ≤ line_bound (scripts_in g) (standing_of opening g) k
  pub small : turns_of g k < 2 ^ 48

-- A client whose line was answered is between two lines.
abbrev pub IsWhole : {D : Type 0} → State → GroundValue D → ℕ → Turned → Type 0
IsWhole opening g k (turned.Line n) = IsBetween (scripts_in g) (standing_of opening g) k
IsWhole opening g k turned.Again = Unit {0}
IsWhole opening g k (turned.Work job) = Unit {0}
IsWhole opening g k turned.Finished = Unit {0}
IsWhole opening g k (turned.Stopped fault) = Unit {0}

-- A block that does not hold what its place says is never met.
abbrev pub IsNeverBad : Turned → Type 0
IsNeverBad result = (block : ℕ) (why : Why) → result ≡ turned.Stopped (Bad block why) → ⊥

-- ---- faults

-- A half stopped a run that stood, only where it failed in the last call of the turn.
abbrev pub IsStoppedBy : {D : Type 0} → Ghosts D → GroundValue D → GroundValue D → Turned → Type 0
IsStoppedBy b g g' result =
    (h : Half) → g.fault ≡ None → result ≡ turned.Stopped (Drive h)
    → IsFailed (b.faults (store_in g)) (b.faults (store_in g')) (b.last_fault (store_in g'))
    (b.moment (store_in g')) ((opening : State) → IsRunOf b g opening → ⊥) h
