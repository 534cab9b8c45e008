-- What a run of clients keeps in its type.
use Rattle.std.specs.Prelude.{◌≡◌, ℕ, suc, ◌+◌, ◌≤◌, List, length, sum_by, Option, None, Some, Ok, slice_get}
use Rattle.pair_store.specs.declared.store.Blocks.{Ghosts}
use Rattle.service_model.specs.Standing.{Scripts, client_of}
use Rattle.store_model.specs.Found.{found}
use Rattle.tree_model.specs.States.{State}
use Rattle.ground_model.specs.Opened.{IsOpenedFrom}
use Rattle.ground_model.specs.Scenes.{Scene}
use Rattle.ground_model.specs.Stops.{HasStopped}
use Rattle.session.specs.Own.{IsOwn}
use Rattle.session.specs.Safe.{IsSafe, IsSafeStore, entries_left}
use Rattle.session.specs.Shared.{RunStands, entries_of, room_of}
use Rattle.session.specs.declared.common.Common.{Common}
use Rattle.session.specs.declared.session.Session.{Session}
use Rattle.session.specs.declared.turned.Fault.{Fault}
use Rattle.session.specs.declared.turned.Fault.TheVariants.{Drive, Bad}
use Rattle.ground.specs.Runs.{GroundValue, scripts_of}

-- ---- numbers

-- How many entries these clients may still note.
abbrev pub left_of : List Session → ℕ
left_of sessions = sum_by (λ (s : Session). entries_left s.script s.course) sessions

-- There are 1 to 16 clients, in the order of their numbers.
pub record AreClients (sessions : List Session) : Type 0 where
  pub some : 1 ≤ length sessions
  pub most : length sessions ≤ 16
  pub numbers : (i : ℕ) (s : Session) → slice_get sessions i ≡ Some s → s.course.client ≡ suc i

-- Whether or not contents are told: the numbers of what the clients share and of each client fit
-- the store, there is room for the entries that the clients may still note, and they are few: four
-- for each of sixteen thousand lines.
pub record IsSafeRun {D : Type 0} (size : D → ℕ) (c : Common D)
    (sessions : List Session) : Type 0 where
  pub store : IsSafeStore size c
  pub clients : AreClients sessions
  pub safe : (i : ℕ) (s : Session) → slice_get sessions i ≡ Some s
      → IsSafe (size c.store) c.map s.script s.course
  pub room : length (entries_of c) + left_of sessions ≤ room_of c
  pub few : length (entries_of c) + left_of sessions ≤ 64000

-- ---- where contents are told

-- The run stands in a scene in which each client has of its own what it needs for its next turn.
pub record AllStand {D : Type 0} (b : Ghosts D) (opening : State) (first : ℕ) (c : Common D)
    (sessions : List Session) : Type 0 where
  pub scene : Scene
  pub stands : RunStands b opening (scripts_of sessions) first scene c
  pub own : (i : ℕ) (s : Session) → slice_get sessions i ≡ Some s
      → IsOwn (scripts_of sessions) scene s.script s.course

-- A half failed, and stopped the run: kept is what a crash may leave, and the answers of the
-- clients are those to which the journal leads.
pub record HasHalted {D : Type 0} (b : Ghosts D) (opening : State) (scripts : Scripts) (first : ℕ)
    (c : Common D) (sessions : List Session) : Type 0 where
  pub stopped : HasStopped b opening scripts first c.store c.log.journal
  pub answers : (i : ℕ) (s : Session) → slice_get sessions i ≡ Some s
      → (client_of stopped.standing (suc i)).answers ≡ s.course.replies.items

-- The run stands, or a half stopped it. A block that does not hold what its place says was never
-- met.
abbrev pub StandsOr : {D : Type 0} → Ghosts D → State → ℕ → Common D → List Session → Option Fault
    → Type 0
StandsOr b opening first c sessions None = AllStand b opening first c sessions
StandsOr b opening first c sessions (Some (Drive half)) =
    HasHalted b opening (scripts_of sessions) first c sessions
StandsOr b opening first c sessions (Some (Bad block why)) = ⊥

-- The run began over the state that was found as its store was opened, and it stands, or a fault
-- stopped it. Of images it is said what a crash from the moment `first` on leaves.
pub record HasRun {D : Type 0} (b : Ghosts D) (first : ℕ) (g : GroundValue D) : Type 0 where
  pub opening : State
  pub found : found (b.content g.opened.store) (b.size g.opened.store) ≡ Ok opening
  pub stands : StandsOr b opening first g.common g.sessions g.fault

-- ---- the whole

-- What the type of a run keeps: its store has as many blocks as it had, its numbers fit, and where
-- contents are told, over a store as an opening leaves it, it stands or was stopped.
pub record IsGround {D : Type 0} (b : Ghosts D) (g : GroundValue D) : Type 0 where
  pub size : b.size g.common.store ≡ b.size g.opened.store
  pub safe : IsSafeRun b.size g.common g.sessions
  pub told : b.tells → (first : ℕ) → IsOpenedFrom b g.opened first → HasRun b first g
