-- What a turn of one client leaves the others.
use Rattle.std.specs.Prelude.{◌≡◌, ◌≢◌, ◌↔◌, ℕ, ◌≤◌, ◌==◌, List, ◌++◌, filter, length, Some, Contains}
use Rattle.draft_model.specs.Stands.{SameBase}
use Rattle.service_model.specs.Sound.{IsOn}
use Rattle.service_model.specs.Standing.{Upkeep, Work, Made, client_of}
use Rattle.store_model.specs.Found.{version_in}
use Rattle.store_model.specs.Laid.{LaidVersion}
use Rattle.store_model.specs.Laws.{pages_of}
use Rattle.ground_model.specs.Scenes.{Scene, HasVersion}
use Rattle.ground_model.specs.Own.{IsHeldBy}

-- A version of an object is there again, with its serial, in its block, with its tree; and each
-- block that it leads to shows the page that it showed.
pub record IsThereAgain (old new : Scene) (object : ℕ) (version : LaidVersion) : Type 0 where
  pub again : LaidVersion
  pub is : HasVersion new.store object again
  pub serial : again.serial ≡ version.serial
  pub block : again.block ≡ version.block
  pub tree : (version_in again).tree ≡ (version_in version).tree
  pub pages : SameBase (pages_of old.content) (pages_of new.content) version.block

-- The versions of an object that were made in this run, in their order.
abbrev pub made_of : ℕ → List Made → List Made
made_of object made = filter (λ (m : Made). m.object == object) made

-- What is known of them stays known, and there may be more.
pub record IsKnownStill (object : ℕ) (old new : List Made) : Type 0 where
  pub more : List Made
  pub are : made_of object new ≡ made_of object old ++ more

-- A version of a file of client k's open update, from the update's base on.
pub record IsReliedOn (scene : Scene) (k : ℕ) (w : Work) (version : LaidVersion) : Type 0 where
  pub on : IsOn scene.standing k w
  pub is : HasVersion scene.store w.object version
  pub from : w.serial ≤ version.serial

-- A turn of another client leaves client k what it relies on.
pub record Leaves (k : ℕ) (old new : Scene) : Type 0 where
  -- its lines, its update, and how many blocks it holds
  pub client : client_of new.standing k ≡ client_of old.standing k
  pub clients : length new.standing.clients ≡ length old.standing.clients
  -- its maintenance, and no other is its own
  pub upkeep : (up : Upkeep) → up.client ≡ k
      → (old.standing.upkeep ≡ Some up) ↔ (new.standing.upkeep ≡ Some up)
  -- the blocks that it holds, with what they hold
  pub held : (n : ℕ) → IsHeldBy old k n → IsHeldBy new k n × (new.content n ≡ old.content n)
  -- the versions that its update stands on and those after them
  pub versions : (w : Work) (version : LaidVersion) → IsReliedOn old k w version
      → IsThereAgain old new w.object version
  -- under the serials of these nothing new was made
  pub made : (w : Work) (version : LaidVersion) → IsReliedOn old k w version → (m : Made)
      → Contains new.standing.made m → m.object ≡ w.object → m.serial ≤ version.serial
      → Contains old.standing.made m
  -- what is known of the versions that were made of its update's files
  pub known : (w : Work) → IsOn old.standing k w
      → IsKnownStill w.object old.standing.made new.standing.made

-- Every version of every object is there again.
abbrev pub KeepsVersions : Scene → Scene → Type 0
KeepsVersions old new =
    (object : ℕ) (version : LaidVersion) → HasVersion old.store object version
    → IsThereAgain old new object version

-- Every client but this one is left what it relies on.
abbrev pub LeavesOthers : ℕ → Scene → Scene → Type 0
LeavesOthers k old new = (j : ℕ) → 1 ≤ j → j ≢ k → Leaves j old new
