-- A run that a fault stopped.
use Rattle.std.specs.Prelude.{◌≡◌, ◌⊎◌, ℕ, List, Option, Some, None, Ok, ◌<◌}
use Rattle.drives.specs.Changes.{Changes}
use Rattle.pair_store.specs.Blocks.{OldOrNew, SameOthers}
use Rattle.pair_store.specs.declared.store.Blocks.{Ghosts}
use Rattle.service_model.specs.declared.journal.Entry.{Entry}
use Rattle.service_model.specs.declared.journal.Journal.{Journal}
use Rattle.service_model.specs.Entries.{after_entry}
use Rattle.service_model.specs.Legal.{IsLawful, Reaches}
use Rattle.service_model.specs.Standing.{Scripts, Standing}
use Rattle.store_model.specs.Found.{found}
use Rattle.tree_model.specs.States.{State}
use Rattle.ground_model.specs.Fronts.{AllRecovered}
use Rattle.ground_model.specs.Runs.{IsRead, Stands, images_of}
use Rattle.ground_model.specs.Scenes.{Scene, IsShared}

-- The state that is found is the one to which the entries lead, or with the entry in doubt.
abbrev pub IsFoundAfter : Scripts → Standing → Option Entry → State → Type 0
IsFoundAfter scripts s doubt state =
    (state ≡ s.state) ⊎ ((e : Entry) × (doubt ≡ Some e) × (state ≡ (after_entry scripts s e).state))

-- What is kept of a run that stopped: its entries are legal, and so is the one in doubt after them;
-- what is found is the state after them, or after that one too; and so it is in each image, of a
-- front of them.
pub record HasStopped {D : Type 0} (b : Ghosts D) (opening : State) (scripts : Scripts)
    (first : ℕ) (store : D)
    (journal : Journal) : Type 0 where
  pub standing : Standing
  pub reaches : Reaches opening scripts journal.entries.items standing
  pub doubt : (e : Entry) → journal.doubt ≡ Some e → IsLawful scripts standing e
  pub state : State
  pub found : found (b.content store) (b.size store) ≡ Ok state
  pub after : IsFoundAfter scripts standing journal.doubt state
  pub recovered : AllRecovered (images_of b (b.size store)) opening scripts first store journal

-- A read that failed stops a run, with nothing in doubt.
abbrev pub ReadStops : {D : Type 0} → Ghosts D → Type 0
ReadStops {D} b =
    (opening : State) (scripts : Scripts) (first : ℕ) (scene : Scene) (before after : D)
    (journal : Journal)
    → Stands b opening scripts first scene before journal.entries.items → journal.doubt ≡ None
    → IsRead b before after → HasStopped b opening scripts first after journal

-- A write that failed, and that would have led to a scene: the block has its old content or the new
-- one, in what is found and in each image.
pub record IsFailedWrite {D : Type 0} (b : Ghosts D) (old new : Scene) (before after : D)
    (block : ℕ) (bytes : List ℕ)
    : Type 0 where
  pub within : block < old.store.root.blocks
  pub here : new.content block ≡ Some bytes
  pub others : SameOthers block old.content new.content
  pub most : new.most ≡ old.most
  pub blocks : new.store.root.blocks ≡ old.store.root.blocks
  pub size : b.size after ≡ b.size before
  pub either : OldOrNew block bytes (b.content before) (b.content after)
  pub images : b.settled_always before block
      → Changes b.moment b.may_leave before after (OldOrNew block bytes)

-- The write of an entry that changes the state stops the run with that entry in doubt.
abbrev pub WriteStops : {D : Type 0} → Ghosts D → Type 0
WriteStops {D} b =
    (opening : State) (scripts : Scripts) (first : ℕ) (old new : Scene) (before after : D)
    (block : ℕ) (bytes : List ℕ)
    (journal : Journal) (e : Entry)
    → Stands b opening scripts first old before journal.entries.items → journal.doubt ≡ Some e
    → IsShared new → IsLawful scripts old.standing e
    → new.standing ≡ after_entry scripts old.standing e
    → IsFailedWrite b old new before after block bytes
    → HasStopped b opening scripts first after journal
