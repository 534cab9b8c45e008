-- How one scene comes from another: the steps that turns are made of.
use Rattle.std.specs.Prelude.{◌≡◌, ◌≢◌, ◌↔◌, ◌⊎◌, ℕ, suc, ◌<◌, ◌≤◌, true, List, [], ◌∷◌, ◌++◌}
use Rattle.std.specs.Prelude.{length, Ok, Contains}
use Rattle.block_map.specs.States.{state_at, held_count, Replaces}
use Rattle.block_map.specs.declared.states.BlockState.{BlockState}
use Rattle.block_map.specs.declared.states.BlockState.TheVariants.{Free, Held, Kept}
use Rattle.pair_store.specs.Blocks.{SameContents, SameOthers}
use Rattle.service_model.specs.Standing.{Standing, Made, client_of}
use Rattle.store_changes.specs.Stands.{IsPlace}
use Rattle.store_changes.specs.Writes.{Content}
use Rattle.store_model.specs.Changes.{NextVersion, Rewrites, with_commit, with_version}
use Rattle.store_model.specs.Found.{laid, version_in}
use Rattle.store_model.specs.Laid.{LaidVersion}
use Rattle.store_model.specs.Members.{names_none}
use Rattle.ground_model.specs.Scenes.{Scene, HasVersion, IsAsMade, IsLinking, held_by}
use Rattle.ground_model.specs.Own.{IsHeldBy}

-- ---- a client's lines

-- What stands differs in client k alone: in its lines, its update, and how many blocks it holds. It
-- sets no links.
pub record ChangesOnly (k : ℕ) (s t : Standing) : Type 0 where
  pub state : t.state ≡ s.state
  pub made : t.made ≡ s.made
  pub upkeep : t.upkeep ≡ s.upkeep
  pub clients : length t.clients ≡ length s.clients
  pub others : (j : ℕ) → 1 ≤ j → j ≢ k → client_of t j ≡ client_of s j
  pub links : (object : ℕ) (l : IsLinking s object) → l.client ≢ k

-- The state of a block that client k can neither take nor give back.
abbrev pub IsFixed : ℕ → BlockState → Type 0
IsFixed k Free = ⊥
IsFixed k (Held by) = by ≢ k
IsFixed k Kept = Unit {0}

-- The scene with what was read again, another map and another standing.
abbrev pub moved_to : Scene → Content → List BlockState → Standing → Scene
moved_to old content states standing =
    record old { content = content; states = states; standing = standing }

-- A step of client k's line: no content changed, nor the store; free blocks may have become the
-- client's, and its blocks free.
pub record IsLineStep (k : ℕ) (old : Scene) (content : Content) (states : List BlockState)
    (standing : Standing)
    : Type 0 where
  pub same : SameContents old.content content
  pub only : ChangesOnly k old.standing standing
  pub size : length states ≡ length old.states
  pub fixed : (n : ℕ) (s : BlockState) → IsFixed k s
      → (state_at old.states n ≡ s) ↔ (state_at states n ≡ s)
  pub held : (j : ℕ) → held_count j states ≡ held_by standing j

-- ---- a block that is held

-- The scene with other contents.
abbrev pub with_content : Scene → Content → Scene
with_content old content = record old { content = content }

-- One block was written, which client k holds.
pub record IsHeldWrite (k block : ℕ) (old : Scene) (content : Content) : Type 0 where
  pub held : IsHeldBy old k block
  pub others : SameOthers block old.content content

-- ---- the link

-- The last version of a file names the next one, whose pages lie in the blocks that client k held:
-- these are kept now.
pub record IsLinkSet (k : ℕ) (old new : Scene) : Type 0 where
  pub low : 1 ≤ k
  pub next : NextVersion old.content old.store old.places
  pub none : names_none next.version ≡ true
  pub rewrites : Rewrites old.content new.content next.base.block (with_commit next.block)
  pub taken : (n : ℕ) → IsPlace next.after n ↔ (IsPlace old.places n ⊎ IsHeldBy old k n)
  pub kept : Replaces k Kept old.states new.states
  pub most : new.most ≡ old.most
  pub laid : laid new.content new.most [] ≡ Ok (new.store, new.places)
  pub freed : new.freed ≡ old.freed

-- What stands has the new version of that file, and knows the update that made it: nothing is held
-- by client k any more, and nobody sets links of this file.
pub record IsNoted (k : ℕ) (s t : Standing) (object : ℕ) (version : LaidVersion) : Type 0 where
  pub state : t.state ≡ with_version object (version_in version) s.state
  pub news : Made
  pub made : t.made ≡ s.made ++ news ∷ []
  pub of_object : news.object ≡ suc object
  pub serial : news.serial ≡ version.serial
  pub as_made : IsAsMade news version
  pub late : (m : Made) → Contains s.made m → m.object ≡ suc object → m.serial < version.serial
  pub upkeep : t.upkeep ≡ s.upkeep
  pub clients : length t.clients ≡ length s.clients
  pub others : (j : ℕ) → 1 ≤ j → j ≢ k → client_of t j ≡ client_of s j
  pub held : (client_of t k).held ≡ 0
  pub links : (o : ℕ) (l : IsLinking s o) → l.client ≢ k
  pub unlinked : IsLinking s (suc object) → ⊥

-- Every version of the file is earlier than the new one.
abbrev pub IsLatest : Scene → ℕ → LaidVersion → Type 0
IsLatest scene object version =
    (v : LaidVersion) → HasVersion scene.store (suc object) v → v.serial < version.serial
