-- What a turn of one client leaves the others of their own.
use Rattle.std.specs.Prelude.{◌≡◌, ◌≢◌, ℕ, ◌≤◌, List, length}
use Rattle.block_map.specs.declared.states.BlockState.{BlockState}
use Rattle.ground_model.specs.Bounds.{line_bound}
use Rattle.ground_model.specs.Scenes.{Scene}
use Rattle.pair_store.specs.declared.store.Blocks.{Ghosts}
use Rattle.script_text.specs.ScriptValue.{ScriptValue}
use Rattle.service_model.specs.declared.journal.Entry.{Entry}
use Rattle.service_model.specs.Sound.{AreSayable, IsOpenAt, IsSound}
use Rattle.service_model.specs.Standing.{Scripts, Update}
use Rattle.play_order.specs.Orders.{IsBetween}
use Rattle.session.specs.declared.stage.Stage.TheVariants.{Resting}
use Rattle.tree_model.specs.States.{State}
use Rattle.session.specs.Calls.{KeepsNumbers}
use Rattle.session.specs.Ends.{GoesTo}
use Rattle.session.specs.Own.{IsOwn}
use Rattle.session.specs.Safe.{IsSafe}
use Rattle.session.specs.declared.common.Common.{Common}
use Rattle.session.specs.declared.course.Course.{Course}

-- Where the run goes to another scene in a turn of client k, every other client has of its own what
-- it had.
abbrev pub OwnIsLeft : {D : Type 0} → Ghosts D → Type 0
OwnIsLeft {D} b =
    (opening : State) (scripts : Scripts) (first : ℕ) (old new : Scene) (c c' : Common D) (k : ℕ)
    (es : List Entry) (script : ScriptValue) (s : Course)
    → GoesTo b opening scripts first old new c c' k es → s.client ≢ k
    → IsOwn scripts old script s → IsOwn scripts new script s

-- And where the turn kept the numbers that clients share, the numbers of every other client stay.
abbrev pub SafeIsLeft : {D : Type 0} → Ghosts D → Type 0
SafeIsLeft {D} b =
    (c c' : Common D) (k : ℕ) (script : ScriptValue) (s : Course)
    → KeepsNumbers b c c' k → s.client ≢ k → IsSafe (b.size c.store) c.map script s
    → IsSafe (b.size c'.store) c'.map script s

-- ---- turns of a line

-- The turns of a client's line under way are within the line's bound.
abbrev pub TurnsAreWithin : Type 0
TurnsAreWithin =
    (size : ℕ) (map : List BlockState) (scripts : Scripts) (scene : Scene) (script : ScriptValue)
    (s : Course)
    → AreSayable scripts → IsSound scripts scene.standing → IsSafe size map script s
    → IsOwn scripts scene script s → s.turns ≤ line_bound scripts scene.standing s.client

-- A client that rests is between two lines, unless it reads pages for a step.
abbrev pub RestIsBetween : Type 0
RestIsBetween =
    (scripts : Scripts) (scene : Scene) (script : ScriptValue) (s : Course)
    → s.stage ≡ Resting → IsOwn scripts scene script s
    → IsBetween scripts scene.standing s.client

-- An open update of a client is of at most seventeen files.
abbrev pub UpdateIsSmall : Type 0
UpdateIsSmall =
    (size : ℕ) (map : List BlockState) (scripts : Scripts) (scene : Scene) (script : ScriptValue)
    (s : Course)
    → IsSafe size map script s → IsOwn scripts scene script s
    → (u : Update) → IsOpenAt scene.standing s.client u → length u.works ≤ 17
