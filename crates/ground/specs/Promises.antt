-- What is promised of a run over a store as an opening leaves it, whose contents are told.
use Rattle.std.specs.Prelude.{◌≡◌, ℕ, ◌<◌, ◌≤◌, List, [], ◌∷◌, length, map, Option, Some, None, Ok, option_map, option_and_then, slice_get}
use Rattle.drives.specs.declared.device.Half.{Half}
use Rattle.ground_model.specs.Fronts.{AllRecovered}
use Rattle.ground_model.specs.Runs.{IsCalm, images_of}
use Rattle.ground_model.specs.Scenes.{HasVersion, IsAsMade}
use Rattle.ground_model.specs.Stops.{IsFoundAfter}
use Rattle.pair_store.specs.declared.store.Blocks.{Ghosts}
use Rattle.service_model.specs.declared.journal.Entry.{Entry}
use Rattle.service_model.specs.Legal.{IsLawful, Reaches}
use Rattle.service_model.specs.Standing.{Made, Standing, client_of}
use Rattle.session.specs.declared.turned.Fault.{Fault}
use Rattle.session.specs.declared.turned.Fault.TheVariants.{Drive}
use Rattle.store_model.specs.Found.{LaidStore, found, laid}
use Rattle.store_model.specs.Laid.{LaidVersion}
use Rattle.tree_model.specs.States.{File, State, Version, file_of, last_version}
use Rattle.ground.specs.Runs.{GroundValue, entries_in, journal_in, scripts_in, store_in, told_in}
use Rattle.ground.specs.Turning.{replies_of}

-- ---- what files keep

-- The serials of the first and of the last version that an object's file keeps, where it is live.
abbrev pub first_of : List Version → ℕ
first_of [] = 0
first_of (version ∷ others) = version.serial

abbrev pub kept_of : File → Option (ℕ × ℕ)
kept_of file = option_map (λ (v : Version). (first_of file.versions, v.serial)) (last_version file)

abbrev pub kept_in : State → ℕ → Option (ℕ × ℕ)
kept_in state object = option_and_then kept_of (file_of state object)

-- ---- while no fault has come

-- The versions that were made are as their updates made them, in their trees and in the marks of
-- their pages, where they are kept, and not as the first of their files.
abbrev pub AreMade : LaidStore → List Made → Type 0
AreMade store made =
    (k : ℕ) (m : Made) (version : LaidVersion) → slice_get made k ≡ Some m
    → (has : HasVersion store m.object version) → version.serial ≡ m.serial → 1 ≤ has.place
    → IsAsMade m version

-- Nothing is in doubt. The state to which the journal leads is found, its blocks are settled, in
-- every image too where images are spoken of, what is known of the versions that its files keep is
-- so, and the versions that were made are as they were made.
pub record IsStanding {D : Type 0} (b : Ghosts D) (first : ℕ) (g : GroundValue D)
    (standing : Standing) : Type 0 where
  pub doubt : (journal_in g).doubt ≡ None
  pub state : found (b.content (store_in g)) (b.size (store_in g)) ≡ Ok standing.state
  pub settled : (n : ℕ) → n < standing.state.blocks → b.settled (store_in g) n
  pub calm : IsCalm b first standing.state.blocks (store_in g)
  pub told : told_in g ≡ map kept_of standing.state.files
  pub made : (store : LaidStore) (places : List ℕ)
      → laid (b.content (store_in g)) (b.size (store_in g)) [] ≡ Ok (store, places)
      → AreMade store standing.made

-- ---- after a fault

-- A half failed. The state that is found is the one to which the journal leads, or the one with the
-- entry in doubt after it, which is lawful there.
pub record IsStopped {D : Type 0} (b : Ghosts D) (g : GroundValue D) (standing : Standing)
    (fault : Fault) : Type 0 where
  pub half : Half
  pub failed : fault ≡ Drive half
  pub doubt : (e : Entry) → (journal_in g).doubt ≡ Some e → IsLawful (scripts_in g) standing e
  pub state : State
  pub found_now : found (b.content (store_in g)) (b.size (store_in g)) ≡ Ok state
  pub after : IsFoundAfter (scripts_in g) standing (journal_in g).doubt state

-- ---- the whole

abbrev pub StandsNow : {D : Type 0} → Ghosts D → ℕ → GroundValue D → Standing → Option Fault
    → Type 0
StandsNow b first g standing None = IsStanding b first g standing
StandsNow b first g standing (Some fault) = IsStopped b g standing fault

-- The journal is legal over the state that was found as the store was opened, and leads to what
-- stands now; the answers of the clients are those to which it leads. Each image of each moment
-- from `first` on holds the state after a front of the journal, which has each entry that was
-- acknowledged by then, and at most one more that changes the state; or after all of it and the
-- entry in doubt.
pub record IsPromised {D : Type 0} (b : Ghosts D) (opening : State) (first : ℕ)
    (g : GroundValue D) : Type 0 where
  pub standing : Standing
  pub legal : Reaches opening (scripts_in g) (entries_in g) standing
  pub answers : (k : ℕ) → 1 ≤ k → k ≤ length g.sessions
      → replies_of g k ≡ (client_of standing k).answers
  pub stands : StandsNow b first g standing g.fault
  pub recovered : AllRecovered (images_of b (b.size (store_in g))) opening (scripts_in g)
      first (store_in g) (journal_in g)
