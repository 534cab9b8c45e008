-- A run over a store of blocks: what stands between two turns, and what one block operation may do.
use Rattle.std.specs.Prelude.{◌≡◌, ◌⊎◌, ℕ, ◌<◌, ◌≤◌, true, List, ◌++◌, Some}
use Rattle.std.specs.List.{list_all}
use Rattle.drives.specs.Changes.{Changes}
use Rattle.pair_store.specs.Blocks.{OldOrNew, SameContents, SameOthers}
use Rattle.pair_store.specs.declared.store.Blocks.{Ghosts}
use Rattle.service_model.specs.declared.journal.Entry.{Entry}
use Rattle.service_model.specs.Entries.{after_entries}
use Rattle.service_model.specs.Laws.{IsFitting}
use Rattle.service_model.specs.Legal.{IsLegalFrom, Reaches}
use Rattle.service_model.specs.Sound.{AreSayable}
use Rattle.service_model.specs.Standing.{Scripts}
use Rattle.store_changes.specs.Writes.{Content}
use Rattle.store_model.specs.Found.{found}
use Rattle.tree_model.specs.States.{State}
use Rattle.ground_model.specs.Fronts.{Images, AllFronts, AreOfTurn, is_by}
use Rattle.ground_model.specs.Laws.{TurnsRecover}
use Rattle.ground_model.specs.Scenes.{Scene, IsShared}

-- What crashes leave of a store of blocks, as the files that are found.
abbrev pub images_of : {D : Type 0} → Ghosts D → ℕ → Images D Content
images_of b most =
    record { moment = b.moment; may_leave = b.may_leave; outcome = λ f. found f most }

-- No moment is as late as this one, so that nothing is said of images from there on.
abbrev pub IsNever : {D : Type 0} → Ghosts D → ℕ → Type 0
IsNever {D} b first = (d : D) → b.moment d < first

-- So many blocks are settled in every image; or nothing is said of images.
abbrev pub IsCalm : {D : Type 0} → Ghosts D → ℕ → ℕ → D → Type 0
IsCalm b first blocks store =
    ((n : ℕ) → n < blocks → b.settled_always store n) ⊎ IsNever b first

-- A run stands in a scene: the store has the scene's contents, settled, and in every image too
-- where images are spoken of; the entries are a legal journal over the state that was opened, they
-- lead to what stands, and none carries a later moment; and each image of each moment from the
-- first one on holds the state after a front of them.
pub record Stands {D : Type 0} (b : Ghosts D) (opening : State) (scripts : Scripts) (first : ℕ)
    (scene : Scene)
    (store : D) (es : List Entry) : Type 0 where
  pub shared : IsShared scene
  pub content : scene.content ≡ b.content store
  pub most : scene.most ≡ b.size store
  pub settled : (n : ℕ) → n < scene.store.root.blocks → b.settled store n
  pub calm : IsCalm b first scene.store.root.blocks store
  pub fitting : IsFitting opening
  pub sayable : AreSayable scripts
  pub reaches : Reaches opening scripts es scene.standing
  pub past : list_all (is_by (b.moment store)) es ≡ true
  pub fronts : AllFronts (images_of b scene.most) opening scripts first store es

-- ---- one block operation

-- No block operation, or one that changed no content.
pub record IsRead {D : Type 0} (b : Ghosts D) (old new : D) : Type 0 where
  pub size : b.size new ≡ b.size old
  pub same : SameContents (b.content old) (b.content new)
  pub settled : (n : ℕ) → b.settled old n → b.settled new n
  pub settled_always : (n : ℕ) → b.settled_always old n → b.settled_always new n
  pub images : Changes b.moment b.may_leave old new SameContents

-- A block operation wrote one block, which has these bytes now; and has its old content or these in
-- what a crash leaves, where it was settled in every image.
pub record HasPut {D : Type 0} (b : Ghosts D) (old new : D) (block : ℕ)
    (bytes : List ℕ) : Type 0 where
  pub size : b.size new ≡ b.size old
  pub here : b.content new block ≡ Some bytes
  pub others : SameOthers block (b.content old) (b.content new)
  pub settled : (n : ℕ) → b.settled old n → b.settled new n
  pub settled_always : (n : ℕ) → b.settled_always old n → b.settled_always new n
  pub later : b.moment old ≤ b.moment new
  pub images : b.settled_always old block
      → Changes b.moment b.may_leave old new (OldOrNew block bytes)

-- At most one block operation: it changed the content of one of so many blocks, or of none.
abbrev pub IsOneOperation : {D : Type 0} → Ghosts D → ℕ → D → D → Type 0
IsOneOperation b blocks old new = IsRead b old new
    ⊎ ((block : ℕ) × (bytes : List ℕ) × (block < blocks) × HasPut b old new block bytes)

-- What a turn did: at most one block operation, and these entries, which are legal where the scene
-- before it stood, lead to what stands after it, and carry the moment as it returned.
pub record IsTurn {D : Type 0} (b : Ghosts D) (scripts : Scripts) (old new : Scene)
    (before after : D)
    (es : List Entry) : Type 0 where
  pub operation : IsOneOperation b old.store.root.blocks before after
  pub content : new.content ≡ b.content after
  pub most : new.most ≡ old.most
  pub blocks : new.store.root.blocks ≡ old.store.root.blocks
  pub legal : IsLegalFrom scripts old.standing es
  pub leads : new.standing ≡ after_entries scripts old.standing es
  pub moments : AreOfTurn (b.moment after) es

-- A turn that leads to a scene lets the run stand there.
abbrev pub TurnStands : {D : Type 0} → Ghosts D → Type 0
TurnStands {D} b =
    (opening : State) (scripts : Scripts) (first : ℕ) (old new : Scene) (before after : D)
    (es fs : List Entry)
    → Stands b opening scripts first old before es → IsTurn b scripts old new before after fs
    → IsShared new
    → Stands b opening scripts first new after (es ++ fs)

-- ---- any number of turns

-- Whatever turns over a store of blocks follow one another: what a crash at any moment leaves is
-- the state after a front of the journal, as of turns of any device.
abbrev pub RunRecovers : {D : Type 0} → Ghosts D → Type 0
RunRecovers b = (most : ℕ) → TurnsRecover (images_of b most)
