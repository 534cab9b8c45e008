-- What a turn of a client comes to, where the run stands in a scene.
use Rattle.std.specs.Prelude.{◌≡◌, ℕ, Bool, true, not, ◌&&◌, List, ◌++◌, slice_get, Some}
use Rattle.std.specs.List.{list_all}
use Rattle.ground_model.specs.Fronts.{AreOfTurn, is_change}
use Rattle.ground_model.specs.Leaves.{LeavesOthers}
use Rattle.ground_model.specs.Scenes.{Scene}
use Rattle.ground_model.specs.Stops.{HasStopped}
use Rattle.pair_store.specs.declared.store.Blocks.{Ghosts}
use Rattle.play_order.specs.Orders.{AreDue}
use Rattle.script_text.specs.ScriptValue.{ScriptValue}
use Rattle.service_model.specs.declared.journal.Entry.{Entry}
use Rattle.service_model.specs.Entries.{after_entries, is_answer}
use Rattle.service_model.specs.Standing.{Scripts, Standing}
use Rattle.tree_model.specs.States.{State}
use Rattle.session.specs.Own.{IsOwn}
use Rattle.session.specs.Shared.{RunStands, entries_of}
use Rattle.session.specs.declared.common.Common.{Common}
use Rattle.session.specs.declared.course.Course.{Course}
use Rattle.session.specs.declared.turned.Fault.{Fault}
use Rattle.session.specs.declared.turned.Fault.TheVariants.{Drive, Bad}
use Rattle.session.specs.declared.turned.Turned.{Turned}
use Rattle.session.specs.declared.turned.Turned.TheVariants.{Line, Again, Work, Finished, Stopped}

-- These entries are of one client, and due where s stands.
pub record AreOf (scripts : Scripts) (s : Standing) (k : ℕ) (es : List Entry) : Type 0 where
  pub own : (n : ℕ) (e : Entry) → slice_get es n ≡ Some e → e.client ≡ k
  pub due : AreDue scripts s es

-- The run stands in another scene, which these entries of the client lead to; every other client is
-- left what it relies on.
pub record GoesTo {D : Type 0} (b : Ghosts D) (opening : State) (scripts : Scripts) (first : ℕ)
    (old new : Scene) (c c' : Common D) (k : ℕ) (es : List Entry) : Type 0 where
  pub entries : entries_of c' ≡ entries_of c ++ es
  pub of_client : AreOf scripts old.standing k es
  pub leads : new.standing ≡ after_entries scripts old.standing es
  pub stands : RunStands b opening scripts first new c'
  pub others : LeavesOthers k old new

-- So it does after a turn, whose entries carry the moment as it returned; and the client has of its
-- own what it needs for the next turn.
pub record TurnGoes {D : Type 0} (b : Ghosts D) (opening : State) (scripts : Scripts)
    (first : ℕ) (scene : Scene) (c c' : Common D) (script : ScriptValue)
    (s' : Course) : Type 0 where
  pub es : List Entry
  pub after : Scene
  pub goes : GoesTo b opening scripts first scene after c c' s'.client es
  pub moments : AreOfTurn (b.moment c'.store) es
  pub mine : IsOwn scripts after script s'

-- An entry neither changes the state nor answers a line.
abbrev pub is_unmoving : Entry → Bool
is_unmoving e = not (is_change e) && not (is_answer e.what)

abbrev pub AreUnmoved : List Entry → Type 0
AreUnmoved es = list_all is_unmoving es ≡ true

-- A run that stopped keeps what a crash may leave. In the turn that stopped it the client noted
-- these entries, none of which changes the state or answers a line.
pub record StopsWith {D : Type 0} (b : Ghosts D) (opening : State) (scripts : Scripts) (first : ℕ)
    (scene : Scene) (c c' : Common D) (k : ℕ) : Type 0 where
  pub es : List Entry
  pub entries : entries_of c' ≡ entries_of c ++ es
  pub of_client : AreOf scripts scene.standing k es
  pub unmoved : AreUnmoved es
  pub stopped : HasStopped b opening scripts first c'.store c'.log.journal

-- So it does where a half failed. A block that does not hold what its place says is never met.
abbrev pub StopsBy : {D : Type 0} → Ghosts D → State → Scripts → ℕ → Scene → Common D → Common D → ℕ
    → Fault → Type 0
StopsBy b opening scripts first scene c c' k (Drive half) =
    StopsWith b opening scripts first scene c c' k
StopsBy b opening scripts first scene c c' k (Bad block why) = ⊥

-- What a turn comes to, by its answer.
abbrev pub TurnEnds : {D : Type 0} → Ghosts D → State → Scripts → ℕ → Scene → Common D → Common D
    → ScriptValue → Course → Course → Turned → Type 0
TurnEnds b opening scripts first scene c c' script s s' (Line n) =
    TurnGoes b opening scripts first scene c c' script s'
TurnEnds b opening scripts first scene c c' script s s' Again =
    TurnGoes b opening scripts first scene c c' script s'
TurnEnds b opening scripts first scene c c' script s s' (Work job) =
    TurnGoes b opening scripts first scene c c' script s'
TurnEnds b opening scripts first scene c c' script s s' Finished = (c' ≡ c) × (s' ≡ s)
TurnEnds b opening scripts first scene c c' script s s' (Stopped fault) =
    StopsBy b opening scripts first scene c c' s'.client fault
