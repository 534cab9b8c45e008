-- What clients share as a run begins: what an opening left, and no entry.
use Rattle.std.specs.Prelude.{◌≡◌, ◌≢◌, ℕ, ◌≤◌, ◌<◌, ◌-◌, ◌==◌, List, [], length, map, option_map, Option, Some, None, Ok, if◌then◌else◌, slice_get}
use Rattle.afs_base.specs.declared.head.Head.{Head}
use Rattle.block_map.specs.States.{held_count}
use Rattle.block_map.specs.declared.states.BlockState.{BlockState}
use Rattle.pair_store.specs.declared.store.Blocks.{Ghosts}
use Rattle.recovery.specs.declared.opened.OpenedOver.{OpenedOver}
use Rattle.script_text.specs.ScriptValue.{ScriptValue}
use Rattle.service_model.specs.Sound.{AreSayable}
use Rattle.service_model.specs.Standing.{Scripts}
use Rattle.store_model.specs.Found.{found}
use Rattle.ground_model.specs.Opened.{IsOpenedFrom}
use Rattle.ground_model.specs.Scenes.{Scene}
use Rattle.session.specs.Names.{IsHead}
use Rattle.session.specs.Own.{IsOwn}
use Rattle.session.specs.Sessions.{IsNewcomer}
use Rattle.session.specs.Shared.{RunStands, doubt_of, entries_of}
use Rattle.session.specs.declared.common.Common.{Common}
use Rattle.session.specs.declared.session.Session.{Session}

-- ---- what is told of files

-- What is told of a file, where it is not told that it lies in block 0, where none does.
abbrev pub beyond_root : Option Head → Option Head
beyond_root None = None
beyond_root (Some head) = if head.block == 0 then None else Some head

-- What is told of an object's file: the serials of the first and of the last version that it keeps.
pub record TellsSerials (heads : List (Option Head)) (object : ℕ) (serials : ℕ × ℕ) : Type 0 where
  pub head : Head
  pub told : IsHead heads object head
  pub are : serials ≡ (head.first, head.serial)

-- The same of all objects, object 1 first.
abbrev pub serials_in : Head → ℕ × ℕ
serials_in head = (head.first, head.serial)

abbrev pub told_of : List (Option Head) → List (Option (ℕ × ℕ))
told_of heads = map (option_map serials_in) heads

-- ---- the map of blocks

-- No client holds a block.
abbrev pub HoldsNone : List BlockState → Type 0
HoldsNone states = (k : ℕ) → held_count k states ≡ 0

-- A client holds no block any more, and each other one holds as many as before; where it held none,
-- nothing changed.
pub record IsGivenBack (client : ℕ) (old new : List BlockState) : Type 0 where
  pub size : length new ≡ length old
  pub mine : held_count client new ≡ 0
  pub others : (k : ℕ) → k ≢ client → held_count k new ≡ held_count k old
  pub none : held_count client old ≡ 0 → new ≡ old

-- So it is of the clients up to this one.
pub record AreGivenBack (last : ℕ) (old new : List BlockState) : Type 0 where
  pub size : length new ≡ length old
  pub mine : (k : ℕ) → 1 ≤ k → k ≤ last → held_count k new ≡ 0
  pub none : HoldsNone old → new ≡ old

-- ---- the beginning

-- What an opening tells names blocks of the store, and its map has no more blocks.
pub record IsWithin {D : Type 0} (size : D → ℕ) (o : OpenedOver D) : Type 0 where
  pub map : length o.map ≤ size o.store
  pub heads : (k : ℕ) (head : Head) → slice_get o.heads.items k ≡ Some (Some head)
      → head.block < size o.store

-- What clients share of a store that was opened, before the first turn.
pub record IsOver {D : Type 0} (o : OpenedOver D) (c : Common D) : Type 0 where
  pub store : c.store ≡ o.store
  pub table : c.table ≡ o.table
  pub heads : c.heads.items ≡ map beyond_root o.heads.items
  pub map : HoldsNone o.map → c.map ≡ o.map
  pub locks : c.locks ≡ []
  pub entries : entries_of c ≡ []
  pub doubt : doubt_of c ≡ None

-- A run stands in this scene before its first turn, over the state that is found, and each client
-- that has not begun its script has of its own what it needs.
pub record RunBegins {D : Type 0} (b : Ghosts D) (scripts : Scripts) (first : ℕ) (scene : Scene)
    (c : Common D) : Type 0 where
  pub found : found (b.content c.store) (b.size c.store) ≡ Ok scene.standing.state
  pub stands : RunStands b scene.standing.state scripts first scene c
  pub own : (client : ℕ) (script : ScriptValue) (s : Session) → 1 ≤ client
      → slice_get scripts (client - 1) ≡ Some script → IsNewcomer client script s
      → IsOwn scripts scene script s.course

-- So it is over each store as an opening leaves it.
abbrev pub OpenedRunBegins : {D : Type 0} → Ghosts D → Type 0
OpenedRunBegins {D} b =
    (o : OpenedOver D) (first : ℕ) (scripts : Scripts) (c : Common D) → IsOpenedFrom b o first
    → AreSayable scripts → IsOver o c → (scene : Scene) × RunBegins b scripts first scene c
