-- A turn of a client's line that writes nothing, in which the client may have taken blocks or given
-- them back; and a turn that a fault stopped in the write of a block that the client holds.
use Rattle.std.specs.Prelude.{◌≡◌, ◌≢◌, ℕ, false, List, [], ◌∷◌, ◌++◌, length, Some, None, ◌≤◌}
use Rattle.std.specs.List.{list_any}
use Rattle.drives.specs.Changes.{Changes}
use Rattle.block_map.specs.States.{state_at, held_count, Replaces, TakesLeast}
use Rattle.block_map.specs.declared.states.BlockState.{BlockState}
use Rattle.block_map.specs.declared.states.BlockState.TheVariants.{Free, Held}
use Rattle.pair_store.specs.Blocks.{OldOrNew}
use Rattle.pair_store.specs.declared.store.Blocks.{Ghosts}
use Rattle.script_text.specs.declared.script.Line.{Line}
use Rattle.service_model.specs.declared.journal.Entry.{Entry}
use Rattle.service_model.specs.declared.journal.Journal.{Journal}
use Rattle.service_model.specs.declared.journal.Refusal.{Refusal}
use Rattle.service_model.specs.declared.journal.What.TheVariants as what
use Rattle.service_model.specs.Entries.{after_entries, mode_of}
use Rattle.service_model.specs.Legal.{IsHoldable, IsLawfulWhat}
use Rattle.service_model.specs.Sound.{is_committing}
use Rattle.service_model.specs.Standing.{Scripts, Standing, Client, Update, client_of}
use Rattle.tree_model.specs.States.{State}
use Rattle.ground_model.specs.CommitLines.{IsCommitting}
use Rattle.ground_model.specs.Fronts.{AreOfTurn}
use Rattle.ground_model.specs.Laws.{Leads}
use Rattle.ground_model.specs.Lines.{Notes, in_line}
use Rattle.ground_model.specs.Maps.{AreFixed}
use Rattle.ground_model.specs.Own.{IsClient}
use Rattle.ground_model.specs.Runs.{IsRead, Stands}
use Rattle.ground_model.specs.Scenes.{Scene, IsLinking, IsShared, held_by}
use Rattle.ground_model.specs.Steps.{moved_to}
use Rattle.ground_model.specs.Stops.{HasStopped}

-- ---- the map

-- The map changed by client k alone, in free blocks and in its own, and each client holds as many
-- blocks in it as stands.
pub record IsMapStep (k : ℕ) (scene : Scene) (states : List BlockState)
    (standing : Standing) : Type 0 where
  pub size : length states ≡ length scene.states
  pub fixed : AreFixed k scene.states states
  pub held : (j : ℕ) → held_count j states ≡ held_by standing j

-- So it did where a client took the least free blocks, and holds as many now as is noted,
abbrev pub TakingIsStep : Type 0
TakingIsStep =
    (scripts : Scripts) (k n : ℕ) (scene : Scene) (states : List BlockState) (es : List Entry)
    (c : Client)
    → IsShared scene → IsClient scene.standing k → Notes scripts scene.standing k es c
    → TakesLeast k n scene.states states → held_count k states ≡ c.held
    → IsMapStep k scene states (after_entries scripts scene.standing es)

-- and where it gave back all that it held.
abbrev pub GivingIsStep : Type 0
GivingIsStep =
    (scripts : Scripts) (k : ℕ) (scene : Scene) (states : List BlockState) (es : List Entry)
    (c : Client)
    → IsShared scene → IsClient scene.standing k → Notes scripts scene.standing k es c
    → Replaces k Free scene.states states → c.held ≡ 0
    → IsMapStep k scene states (after_entries scripts scene.standing es)

-- So the blocks of a commit are taken, where that is noted,
abbrev pub HoldingTakes : Type 0
HoldingTakes =
    (scripts : Scripts) (k n : ℕ) (scene : Scene) (states : List BlockState) (line : Line)
    (u : Update)
    → IsShared scene → IsCommitting scripts scene.standing k line
    → (client_of scene.standing k).update ≡ Some u → IsHoldable scene.standing k u n
    → TakesLeast k n scene.states states → held_count k states ≡ n
    → IsMapStep k scene states
    (after_entries scripts scene.standing (in_line k line (what.Held n) ∷ []))

-- and given back, where it is refused.
abbrev pub RefusalGivesBack : Type 0
RefusalGivesBack =
    (scripts : Scripts) (k : ℕ) (scene : Scene) (states : List BlockState) (line : Line)
    (why : Refusal)
    → IsShared scene → IsCommitting scripts scene.standing k line
    → IsLawfulWhat (mode_of scripts k) scene.standing k line.command (what.Refused why)
    → Replaces k Free scene.states states
    → IsMapStep k scene states
    (after_entries scripts scene.standing
    (in_line k line (what.Refused why) ∷ in_line k line what.Answered ∷ []))

-- ---- turns

-- A client sets no links where the update that it has open, if there is one, is of one file,
abbrev pub PlainSetsNone : Type 0
PlainSetsNone =
    (s : Standing) (k : ℕ)
    → ((u : Update) → (client_of s k).update ≡ Some u → u.is_super ≡ false)
    → (object : ℕ) (l : IsLinking s object) → l.client ≢ k

-- and where nothing was committed in its line yet.
abbrev pub UncommittedSetsNone : Type 0
UncommittedSetsNone =
    (s : Standing) (k : ℕ) → list_any is_committing (client_of s k).noted ≡ false
    → (object : ℕ) (l : IsLinking s object) → l.client ≢ k

-- A client whose line noted these entries, and by which the map may have changed: nothing was
-- written, and at most a block was read. It sets no links.
pub record IsLineTurn {D : Type 0} (b : Ghosts D) (scripts : Scripts) (k : ℕ) (scene : Scene)
    (before after : D)
    (es : List Entry) (c : Client) (states : List BlockState) : Type 0 where
  pub client : IsClient scene.standing k
  pub notes : Notes scripts scene.standing k es c
  pub links : (object : ℕ) (l : IsLinking scene.standing object) → l.client ≢ k
  pub map : IsMapStep k scene states (after_entries scripts scene.standing es)
  pub read : IsRead b before after
  pub moments : AreOfTurn (b.moment after) es

-- The run stands after it, in the scene with that map and with the entries noted, and the others
-- are left what they rely on.
abbrev pub LineTurnStands : {D : Type 0} → Ghosts D → Type 0
LineTurnStands {D} b =
    (opening : State) (scripts : Scripts) (first k : ℕ) (scene : Scene) (before after : D)
    (es fs : List Entry) (c : Client) (states : List BlockState)
    → Stands b opening scripts first scene before es
    → IsLineTurn b scripts k scene before after fs c states
    → Stands b opening scripts first
    (moved_to scene (b.content after) states (after_entries scripts scene.standing fs)) after
    (es ++ fs)
    × Leads k scene
    (moved_to scene (b.content after) states (after_entries scripts scene.standing fs))

-- So it does after a turn that noted nothing and only read, with the same entries and the same that
-- stands.
abbrev pub ReadTurnStands : {D : Type 0} → Ghosts D → Type 0
ReadTurnStands {D} b =
    (opening : State) (scripts : Scripts) (first k : ℕ) (scene : Scene) (before after : D)
    (es : List Entry)
    → Stands b opening scripts first scene before es → IsClient scene.standing k
    → ((object : ℕ) (l : IsLinking scene.standing object) → l.client ≢ k)
    → IsRead b before after
    → Stands b opening scripts first
    (moved_to scene (b.content after) scene.states scene.standing) after es
    × Leads k scene (moved_to scene (b.content after) scene.states scene.standing)

-- ---- a fault

-- A run that stands may stop there, with nothing in doubt.
abbrev pub StandsStops : {D : Type 0} → Ghosts D → Type 0
StandsStops {D} b =
    (opening : State) (scripts : Scripts) (first : ℕ) (scene : Scene) (store : D)
    (journal : Journal)
    → Stands b opening scripts first scene store journal.entries.items → journal.doubt ≡ None
    → HasStopped b opening scripts first store journal

-- The write of a block that a client holds failed. Its line may have noted entries, and free blocks
-- may have become its own with them. It sets no links.
pub record IsFailedTurn {D : Type 0} (b : Ghosts D) (scripts : Scripts) (k : ℕ) (scene : Scene)
    (before after : D)
    (es : List Entry) (c : Client) (states : List BlockState) (block : ℕ)
    (bytes : List ℕ) : Type 0 where
  pub client : IsClient scene.standing k
  pub notes : Notes scripts scene.standing k es c
  pub links : (object : ℕ) (l : IsLinking scene.standing object) → l.client ≢ k
  pub map : IsMapStep k scene states (after_entries scripts scene.standing es)
  pub mine : state_at states block ≡ Held k
  pub size : b.size after ≡ b.size before
  pub either : OldOrNew block bytes (b.content before) (b.content after)
  pub later : b.moment before ≤ b.moment after
  pub images : b.settled_always before block
      → Changes b.moment b.may_leave before after (OldOrNew block bytes)
  pub moments : AreOfTurn (b.moment after) es

-- It stops the run with those entries noted, and with nothing in doubt.
abbrev pub HeldWriteStops : {D : Type 0} → Ghosts D → Type 0
HeldWriteStops {D} b =
    (opening : State) (scripts : Scripts) (first k : ℕ) (scene : Scene) (before after : D)
    (es fs : List Entry) (c : Client)
    (states : List BlockState) (block : ℕ) (bytes : List ℕ) (journal : Journal)
    → Stands b opening scripts first scene before es
    → IsFailedTurn b scripts k scene before after fs c states block bytes
    → journal.entries.items ≡ es ++ fs → journal.doubt ≡ None
    → HasStopped b opening scripts first after journal
