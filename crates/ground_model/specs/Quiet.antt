-- A turn of a client's line that writes nothing.
use Rattle.std.specs.Prelude.{◌≡◌, ◌≢◌, ℕ, List, ◌++◌}
use Rattle.pair_store.specs.declared.store.Blocks.{Ghosts}
use Rattle.service_model.specs.declared.journal.Entry.{Entry}
use Rattle.service_model.specs.Entries.{after_entries}
use Rattle.service_model.specs.Standing.{Scripts, Client, client_of}
use Rattle.tree_model.specs.States.{State}
use Rattle.ground_model.specs.Fronts.{AreOfTurn}
use Rattle.ground_model.specs.Laws.{Leads}
use Rattle.ground_model.specs.Lines.{Notes}
use Rattle.ground_model.specs.Own.{IsClient}
use Rattle.ground_model.specs.Runs.{Stands, IsRead}
use Rattle.ground_model.specs.Scenes.{Scene, IsLinking}
use Rattle.ground_model.specs.Steps.{moved_to}

-- A client whose line noted these entries and which holds as many blocks as before: nothing was
-- written, and at most a block was read. It sets no links.
pub record IsQuietTurn {D : Type 0} (b : Ghosts D) (scripts : Scripts) (k : ℕ) (scene : Scene)
    (before after : D)
    (es : List Entry) (c : Client) : Type 0 where
  pub client : IsClient scene.standing k
  pub notes : Notes scripts scene.standing k es c
  pub held : c.held ≡ (client_of scene.standing k).held
  pub links : (object : ℕ) (l : IsLinking scene.standing object) → l.client ≢ k
  pub read : IsRead b before after
  pub moments : AreOfTurn (b.moment after) es

-- The run stands after it, in the scene with the entries noted, and the others are left what they
-- rely on.
abbrev pub QuietTurnStands : {D : Type 0} → Ghosts D → Type 0
QuietTurnStands {D} b =
    (opening : State) (scripts : Scripts) (first k : ℕ) (scene : Scene) (before after : D)
    (es fs : List Entry) (c : Client)
    → Stands b opening scripts first scene before es
    → IsQuietTurn b scripts k scene before after fs c
    → Stands b opening scripts first
    (moved_to scene (b.content after) scene.states (after_entries scripts scene.standing fs))
    after (es ++ fs)
    × Leads k scene
    (moved_to scene (b.content after) scene.states (after_entries scripts scene.standing fs))
