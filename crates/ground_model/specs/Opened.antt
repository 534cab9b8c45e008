-- What a run begins with: a store that was opened, and no turn.
use Rattle.std.specs.Prelude.{◌≡◌, ◌⊎◌, ℕ, ◌<◌, [], length, None, Ok}
use Rattle.pair_store.specs.declared.store.Blocks.{Ghosts}
use Rattle.recovery.specs.declared.opened.OpenedOver.{OpenedOver}
use Rattle.recovery.specs.Opening.{IsOpened, IsOpening}
use Rattle.service_model.specs.Sound.{AreSayable}
use Rattle.service_model.specs.Standing.{Scripts, start, client_of}
use Rattle.store_model.specs.Found.{found}
use Rattle.ground_model.specs.Own.{IsClient, IsResting}
use Rattle.ground_model.specs.Runs.{IsNever, Stands}
use Rattle.ground_model.specs.Scenes.{Scene, AreHeads}
use Rattle.ground_model.specs.Tables.{HasSeals}

-- A store was opened, and its blocks are settled. From the moment `first` on each crash leaves the
-- files that are found now, as it is where nothing was pending; or nothing is said of images.
pub record IsOpenedFrom {D : Type 0} (b : Ghosts D) (o : OpenedOver D) (first : ℕ) : Type 0 where
  pub opened : IsOpened (b.content o.store) (b.size o.store) o.table o.map o.heads.items
  pub settled : (n : ℕ) → n < length o.map → b.settled o.store n
  pub images : (IsOpening b o × (o.since ≡ first)) ⊎ IsNever b first

-- A run over a store that was opened stands in this scene before its first turn: it is over the
-- state that is found, no client has begun a line, the map and what is told of the files are those
-- of the opening, and its table has the seals of the state.
pub record Begins {D : Type 0} (b : Ghosts D) (o : OpenedOver D) (first : ℕ) (scripts : Scripts)
    (scene : Scene) : Type 0 where
  pub stands : Stands b scene.standing.state scripts first scene o.store []
  pub opening : found (b.content o.store) (b.size o.store) ≡ Ok scene.standing.state
  pub starts : scene.standing ≡ start scene.standing.state scripts
  pub map : scene.states ≡ o.map
  pub heads : AreHeads scene o.heads.items
  pub table : HasSeals o.table scene.standing.state
  pub resting : (k : ℕ) → IsClient scene.standing k → IsResting scene.standing k
  pub idle : (k : ℕ) → (client_of scene.standing k).update ≡ None

-- So it is over each store as an opening leaves it.
abbrev pub OpenedBegins : {D : Type 0} → Ghosts D → Type 0
OpenedBegins {D} b =
    (o : OpenedOver D) (first : ℕ) (scripts : Scripts) → IsOpenedFrom b o first
    → AreSayable scripts → (scene : Scene) × Begins b o first scripts scene
