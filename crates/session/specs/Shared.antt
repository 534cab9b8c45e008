-- What the clients of a run share, between two turns.
use Rattle.std.specs.Prelude.{◌≡◌, ◌↔◌, ℕ, ◌≤◌, true, List, Option, None}
use Rattle.ground_model.specs.Runs.{Stands}
use Rattle.ground_model.specs.Scenes.{Scene, AreHeads}
use Rattle.ground_model.specs.Tables.{HasSeals}
use Rattle.pair_store.specs.declared.store.Blocks.{Ghosts}
use Rattle.service_model.specs.declared.journal.Entry.{Entry}
use Rattle.service_model.specs.Standing.{Scripts, Standing, client_of, has_locked}
use Rattle.super_files.specs.Locks.{Holds}
use Rattle.super_files.specs.declared.locks.Lock.{Lock}
use Rattle.tree_model.specs.States.{State}
use Rattle.session.specs.Values.{entries_in, room_in}
use Rattle.session.specs.declared.common.Common.{Common}

-- The entries so far, what may be done or not, and for how many entries there is room.
abbrev pub entries_of : {D : Type 0} → Common D → List Entry
entries_of c = entries_in c.log

abbrev pub doubt_of : {D : Type 0} → Common D → Option Entry
doubt_of c = c.log.journal.doubt

abbrev pub room_of : {D : Type 0} → Common D → ℕ
room_of c = room_in c.log

-- The locks that stand are those of the updates of several files that are open.
abbrev pub AreLocksIn : Standing → List Lock → Type 0
AreLocksIn s locks = (k object : ℕ) → 1 ≤ k
    → Holds k object locks ↔ (has_locked object (client_of s k) ≡ true)

-- The run stands in a scene, with nothing in doubt, and what is kept of it in memory is so: the map
-- of its blocks, what is told of each file's versions, the seals of the live objects, the locks.
pub record RunStands {D : Type 0} (b : Ghosts D) (opening : State) (scripts : Scripts)
    (first : ℕ) (scene : Scene) (c : Common D) : Type 0 where
  pub stands : Stands b opening scripts first scene c.store (entries_of c)
  pub sure : doubt_of c ≡ None
  pub map : c.map ≡ scene.states
  pub heads : AreHeads scene c.heads.items
  pub seals : HasSeals c.table scene.standing.state
  pub locks : AreLocksIn scene.standing c.locks
