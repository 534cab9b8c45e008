-- A turn that writes a page of a flush.
use Rattle.std.specs.Prelude.{◌≡◌, ◌≢◌, ◌↔◌, ℕ, zero, true, List, ◌++◌, length, Some, slice_get}
use Rattle.block_map.specs.States.{state_at, held_count}
use Rattle.block_map.specs.declared.states.BlockState.{BlockState}
use Rattle.block_map.specs.declared.states.BlockState.TheVariants.{Held}
use Rattle.draft_model.specs.Flush.{Placed, IsPlaced, are_apart}
use Rattle.draft_model.specs.Views.{View}
use Rattle.pair_store.specs.Blocks.{SameOthers}
use Rattle.pair_store.specs.declared.store.Blocks.{Ghosts}
use Rattle.service_model.specs.declared.journal.Entry.{Entry}
use Rattle.service_model.specs.Entries.{after_entries}
use Rattle.service_model.specs.Standing.{Scripts, Client}
use Rattle.tree_model.specs.States.{State}
use Rattle.version_chain.specs.Flush.{Plan, Base, GivesNext}
use Rattle.ground_model.specs.Fronts.{AreOfTurn}
use Rattle.ground_model.specs.Laws.{Leads}
use Rattle.ground_model.specs.Lines.{Notes}
use Rattle.ground_model.specs.Own.{IsClient, IsFlushing, IsHeldBy}
use Rattle.ground_model.specs.Runs.{HasPut, Stands}
use Rattle.ground_model.specs.Scenes.{Scene, IsLinking, held_by}
use Rattle.ground_model.specs.Steps.{IsFixed, moved_to}

-- A client wrote a block that it holds. Its line may have noted entries, and free blocks may have
-- become its own with them. It sets no links.
pub record IsWriteTurn {D : Type 0} (b : Ghosts D) (scripts : Scripts) (k : ℕ) (scene : Scene)
    (before after : D)
    (es : List Entry) (c : Client) (states : List BlockState) (block : ℕ)
    (bytes : List ℕ) : Type 0 where
  pub client : IsClient scene.standing k
  pub notes : Notes scripts scene.standing k es c
  pub links : (object : ℕ) (l : IsLinking scene.standing object) → l.client ≢ k
  pub size : length states ≡ length scene.states
  pub fixed : (n : ℕ) (s : BlockState) → IsFixed k s
      → (state_at scene.states n ≡ s) ↔ (state_at states n ≡ s)
  pub held : (j : ℕ) → held_count j states ≡ held_by (after_entries scripts scene.standing es) j
  pub mine : state_at states block ≡ Held k
  pub put : HasPut b before after block bytes
  pub moments : AreOfTurn (b.moment after) es

-- The run stands after it, the same is found, and the others are left what they rely on.
abbrev pub WriteTurnStands : {D : Type 0} → Ghosts D → Type 0
WriteTurnStands {D} b =
    (opening : State) (scripts : Scripts) (first k : ℕ) (scene : Scene) (before after : D)
    (es fs : List Entry) (c : Client)
    (states : List BlockState) (block : ℕ) (bytes : List ℕ)
    → Stands b opening scripts first scene before es
    → IsWriteTurn b scripts k scene before after fs c states block bytes
    → Stands b opening scripts first
    (moved_to scene (b.content after) states (after_entries scripts scene.standing fs)) after
    (es ++ fs)
    × Leads k scene
    (moved_to scene (b.content after) states (after_entries scripts scene.standing fs))

-- ---- the flush

-- A flush begins in blocks that the client holds, with nothing written.
abbrev pub FlushBegins : Type 0
FlushBegins =
    (scene : Scene) (k : ℕ) (d : View) (base : Base) (plan : Plan)
    → IsPlaced d plan.placed → are_apart plan.placed ≡ true
    → ((i : ℕ) (x : Placed) → slice_get plan.placed i ≡ Some x → IsHeldBy scene k x.block)
    → plan.written ≡ zero → IsFlushing scene k d base plan

-- It has one place more written after the block that it gives next was written, where the client
-- still holds what it held.
abbrev pub FlushGoesOn : Type 0
FlushGoesOn =
    (old new : Scene) (k : ℕ) (d : View) (base : Base) (plan more : Plan) (block : ℕ)
    (bytes : List ℕ)
    → IsFlushing old k d base plan → GivesNext d base plan more block bytes
    → ((n : ℕ) → IsHeldBy old k n → IsHeldBy new k n)
    → new.content block ≡ Some bytes → SameOthers block old.content new.content
    → IsFlushing new k d base more
