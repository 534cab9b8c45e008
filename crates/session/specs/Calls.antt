-- The contracts of turns, and of what they are made of.
use Rattle.std.specs.Prelude.{◌≡◌, ◌≢◌, ◌⊎◌, ℕ, ◌+◌, ◌<◌, ◌≤◌, List, [], ◌∷◌, ◌++◌, length, Option, None, Some}
use Rattle.block_map.specs.States.{held_count}
use Rattle.drives.specs.declared.device.Half.{Half}
use Rattle.ground_model.specs.Scenes.{Scene}
use Rattle.joint_walk.specs.Calls.{waiting_job}
use Rattle.page_merge.specs.Jobs.{JobValue}
use Rattle.pair_store.specs.Blocks.{CountsOne}
use Rattle.pair_store.specs.declared.store.Blocks.{Ghosts}
use Rattle.recovery.specs.Opening.{IsFailed}
use Rattle.script_text.specs.ScriptValue.{ScriptValue}
use Rattle.script_text.specs.declared.reply.LineReply.{LineReply}
use Rattle.script_text.specs.declared.script.Line.{Line}
use Rattle.service_model.specs.declared.journal.Entry.{Entry}
use Rattle.service_model.specs.Standing.{Scripts}
use Rattle.tree_model.specs.States.{State}
use Rattle.session.specs.Ends.{AreUnmoved, GoesTo, TurnEnds}
use Rattle.session.specs.Safe.{IsSafe, IsSafeStore, entries_left, line_of}
use Rattle.session.specs.Shared.{RunStands, entries_of, room_of}
use Rattle.session.specs.Values.{one_more}
use Rattle.session.specs.declared.common.Common.{Common}
use Rattle.session.specs.declared.course.Course.{Course}
use Rattle.session.specs.declared.stage.Stage.{Stage}
use Rattle.session.specs.declared.stage.Stage.TheVariants as stage
use Rattle.session.specs.declared.turned.Fault.TheVariants as fault
use Rattle.session.specs.declared.turned.Turned.{Turned}
use Rattle.session.specs.declared.turned.Turned.TheVariants as turned

-- ---- numbers

-- What a turn of client k leaves of what the clients share: as many blocks, and each other client
-- holds as many; room for as many entries; no fault is forgotten.
pub record KeepsNumbers {D : Type 0} (b : Ghosts D) (c c' : Common D) (k : ℕ) : Type 0 where
  pub size : b.size c'.store ≡ b.size c.store
  pub blocks : length c'.map ≡ length c.map
  pub others : (j : ℕ) → j ≢ k → held_count j c'.map ≡ held_count j c.map
  pub room : room_of c' ≡ room_of c
  pub faults : (h : Half) → b.faults c.store h ≤ b.faults c'.store h
  pub last : (h : Half) → b.last_fault c.store h ≤ b.last_fault c'.store h

-- Of the room for entries a client took at most what it gave up.
abbrev pub KeepsRoom : {D : Type 0} → ScriptValue → Common D → Common D → Course → Course → Type 0
KeepsRoom script c c' s s' =
    length (entries_of c') + entries_left script s' ≤ length (entries_of c) + entries_left script s

-- The two pages that wait to be merged, which are those of a walk.
abbrev pub waiting_in : Stage → Option JobValue
waiting_in stage.Resting = None
waiting_in (stage.Naming next) = None
waiting_in (stage.Walking walk) = waiting_job walk
waiting_in (stage.Writing flush) = None

-- A turn that answers a line adds its answer; no other changes the answers.
abbrev pub AnswersLine : ScriptValue → Course → Course → Turned → Type 0
AnswersLine script s s' (turned.Line n) =
    (line : Line) × (reply : LineReply) × (line_of script s ≡ Some line) × (n ≡ line.number)
    × (s'.replies ≡ record s.replies { items = s.replies.items ++ reply ∷ [] })
AnswersLine script s s' turned.Again = s'.replies ≡ s.replies
AnswersLine script s s' (turned.Work job) =
    (s'.replies ≡ s.replies) × (waiting_in s'.stage ≡ Some job)
AnswersLine script s s' turned.Finished =
    (length s.replies.items ≡ length script.lines) × (s' ≡ s)
AnswersLine script s s' (turned.Stopped fault) = s'.replies ≡ s.replies

-- The turns of a line are counted as long as it goes on; behind a line stands no stage of it.
abbrev pub CountsTurn : Course → Course → Turned → Type 0
CountsTurn s s' (turned.Line n) = (s'.turns ≡ 0) × (s'.stage ≡ stage.Resting)
CountsTurn s s' turned.Again = s'.turns ≡ one_more s.turns
CountsTurn s s' (turned.Work job) = s'.turns ≡ one_more s.turns
CountsTurn s s' turned.Finished = s'.turns ≡ s.turns
CountsTurn s s' (turned.Stopped fault) = Unit {0}

-- Where nothing was pending, nothing is after a turn that did not stop.
abbrev pub KeepsRest : {D : Type 0} → Ghosts D → D → D → Turned → Type 0
KeepsRest b old new (turned.Line n) = b.tells → b.rest old → b.rest new
KeepsRest b old new turned.Again = b.tells → b.rest old → b.rest new
KeepsRest b old new (turned.Work job) = b.tells → b.rest old → b.rest new
KeepsRest b old new turned.Finished = b.tells → b.rest old → b.rest new
KeepsRest b old new (turned.Stopped fault) = Unit {0}

-- How many operations on blocks a turn made: one where the line goes on, and at most one else.
abbrev pub IsCounted : ℕ → ℕ → Turned → Type 0
IsCounted before after (turned.Line n) = (after ≡ before) ⊎ CountsOne before after
IsCounted before after turned.Again = CountsOne before after
IsCounted before after (turned.Work job) = CountsOne before after
IsCounted before after turned.Finished = after ≡ before
IsCounted before after (turned.Stopped fault) = (after ≡ before) ⊎ CountsOne before after

-- ---- what a client is ready for

-- A client is ready for a turn of the line under way, or of its next one: there is such a line, and
-- there is room for what is noted of it.
pub record IsReady {D : Type 0} (b : Ghosts D) (script : ScriptValue) (c : Common D)
    (s : Course) : Type 0 where
  pub line : length s.replies.items < length script.lines
  pub store : IsSafeStore b.size c
  pub safe : IsSafe (b.size c.store) c.map script s
  pub room : length (entries_of c) + entries_left script s ≤ room_of c
  pub stage : s.stage ≡ stage.Resting

-- ---- what a client has of its own

abbrev pub Own : Type 1
Own = Scripts → Scene → ScriptValue → Course → Type 0

-- A client has this of its own in a scene in which the run stands.
pub record IsIn {D : Type 0} (b : Ghosts D) (own : Own) (script : ScriptValue) (c : Common D)
    (s : Course) (opening : State) (scripts : Scripts) (first : ℕ) (scene : Scene) : Type 0 where
  pub stands : RunStands b opening scripts first scene c
  pub mine : own scripts scene script s

-- There is no such scene.
abbrev pub IsLost : {D : Type 0} → Ghosts D → Own → ScriptValue → Common D → Course → Type 0
IsLost b own script c s =
    (opening : State) (scripts : Scripts) (first : ℕ) (scene : Scene)
    → IsIn b own script c s opening scripts first scene → ⊥

-- ---- turns

-- Whatever scene the run stood in, it goes on as the turn's answer says.
abbrev pub Turns : {D : Type 0} → Ghosts D → Own → ScriptValue → Common D → Common D → Course
    → Course → Turned → Type 0
Turns b own script c c' s s' result =
    (opening : State) (scripts : Scripts) (first : ℕ) (scene : Scene)
    → IsIn b own script c s opening scripts first scene
    → TurnEnds b opening scripts first scene c c' script s s' result

-- A half stopped a turn only where it failed in its last call.
abbrev pub StopsBecause : {D : Type 0} → Ghosts D → Own → ScriptValue → Common D → Common D
    → Course → Turned → Type 0
StopsBecause b own script c c' s result =
    (h : Half) → result ≡ turned.Stopped (fault.Drive h)
    → IsFailed (b.faults c.store) (b.faults c'.store) (b.last_fault c'.store)
    (b.moment c'.store) (b.tells → IsLost b own script c s) h

-- A turn of a client that had this of its own.
pub record TurnCall {D : Type 0} (b : Ghosts D) (own : Own) (script : ScriptValue)
    (c c' : Common D) (s s' : Course) (result : Turned) : Type 0 where
  pub store : IsSafeStore b.size c'
  pub safe : IsSafe (b.size c'.store) c'.map script s'
  pub numbers : KeepsNumbers b c c' s.client
  pub client : s'.client ≡ s.client
  pub entries : KeepsRoom script c c' s s'
  pub lines : AnswersLine script s s' result
  pub counts : CountsTurn s s' result
  pub rest : KeepsRest b c.store c'.store result
  pub counted : IsCounted (b.count c.store) (b.count c'.store) result
  pub stopped : StopsBecause b own script c c' s result
  pub turns : b.tells → Turns b own script c c' s s' result

-- ---- what comes before a turn's one operation

-- Whatever scene the run stood in, it stands in another one, and the client has something else of
-- its own.
abbrev pub Moves : {D : Type 0} → Ghosts D → Own → Own → ScriptValue → Common D → Common D
    → Course → Course → Type 0
Moves b own own' script c c' s s' =
    (opening : State) (scripts : Scripts) (first : ℕ) (scene : Scene)
    → IsIn b own script c s opening scripts first scene
    → (after : Scene) × (es : List Entry)
    × GoesTo b opening scripts first scene after c c' s.client es × AreUnmoved es
    × own' scripts after script s'

-- Part of a turn that makes no operation on a block.
pub record MoveCall {D : Type 0} (b : Ghosts D) (own own' : Own) (script : ScriptValue)
    (c c' : Common D) (s s' : Course) : Type 0 where
  pub same : c'.store ≡ c.store
  pub store : IsSafeStore b.size c'
  pub safe : IsSafe (b.size c'.store) c'.map script s'
  pub numbers : KeepsNumbers b c c' s.client
  pub client : s'.client ≡ s.client
  pub replies : s'.replies ≡ s.replies
  pub entries : KeepsRoom script c c' s s'
  pub moves : b.tells → Moves b own own' script c c' s s'
