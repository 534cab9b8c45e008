-- What all clients of a run see between two turns.
use Rattle.std.specs.Prelude.{◌≡◌, ◌⊎◌, ◌↔◌, ℕ, zero, suc, ◌-◌, ◌<◌, ◌≤◌, true, nat_eq, List, []}
use Rattle.std.specs.Prelude.{length, Option, Some, Ok, slice_get}
use Rattle.std.specs.List.{IsDistinct}
use Rattle.std.specs.Option.{option_map_or}
use Rattle.afs_base.specs.declared.head.Head.{Head}
use Rattle.block_map.specs.States.{state_at, held_count}
use Rattle.block_map.specs.declared.states.BlockState.{BlockState}
use Rattle.block_map.specs.declared.states.BlockState.TheVariants.{Kept}
use Rattle.flush_model.specs.Flushed.{IsFree, IsMarked}
use Rattle.joint_walk.specs.Later.{IsLater, AreMarks}
use Rattle.page_codec.specs.Values.{MemberValue, VersionValue}
use Rattle.recovery.specs.Opening.{heads_of}
use Rattle.service_model.specs.Sound.{HasNoted, IsOpenAt, is_committing}
use Rattle.service_model.specs.Standing.{Standing, Update, Made, Upkeep, client_of, has_file}
use Rattle.store_changes.specs.Stands.{IsPlace}
use Rattle.store_changes.specs.Writes.{Content}
use Rattle.store_model.specs.Changes.{IsLinked, IsTop, version_in_block}
use Rattle.store_model.specs.Found.{LaidStore, laid, state_in, version_in}
use Rattle.store_model.specs.Laid.{LaidFile, LaidVersion, Node, page_in}
use Rattle.store_model.specs.Laws.{pages_of}
use Rattle.tree_model.specs.Trees.{tree_after}

-- What the blocks of halves of this size hold; the store that they stand for, and the places that
-- it lies in; the map of blocks; the blocks that maintenance under way will free; and what stands
-- after the journal.
pub record Scene : Type 0 where
  pub content : Content
  pub most : ℕ
  pub store : LaidStore
  pub places : List ℕ
  pub states : List BlockState
  pub freed : List ℕ
  pub standing : Standing

-- ---- versions

-- The store has a version of an object, which counts from 1.
pub record HasVersion (store : LaidStore) (object : ℕ) (version : LaidVersion) : Type 0 where
  pub file : LaidFile
  pub place : ℕ
  pub counts : 1 ≤ object
  pub listed : slice_get store.files (object - 1) ≡ Some file
  pub kept : slice_get file.versions place ≡ Some version

-- A version is what an update made: it has the tree of the update's steps, and each page of its own
-- carries the marks of what the update did there.
pub record IsAsMade (m : Made) (version : LaidVersion) : Type 0 where
  pub tree : (version_in version).tree ≡ tree_after m.before m.steps
  pub marks : (path : List ℕ) (node : Node) → page_in path version.nodes ≡ Some node
      → node.is_own ≡ true
      → IsMarked m.before m.steps path node

-- So is each version that a commit of this run made, where it is still kept, and not as the first
-- of its file.
abbrev pub AreAsMade : Scene → Type 0
AreAsMade scene =
    (k : ℕ) (m : Made) (version : LaidVersion) → slice_get scene.standing.made k ≡ Some m
    → (has : HasVersion scene.store m.object version) → version.serial ≡ m.serial → 1 ≤ has.place
    → IsAsMade m version

-- What a walk asks of a version in block `root` that an update of this run made of the one in
-- block `base`: its pages lie as the update left them, and its version page names the base, and
-- carries the marks of `/`.
pub record IsMadeOf (content : Content) (m : Made) (base root : ℕ) : Type 0 where
  pub later : IsLater (pages_of content) base root m.before m.steps
  pub page : VersionValue
  pub held : version_in_block content root ≡ Some page
  pub base_is : page.base ≡ Some base
  pub marks : AreMarks m.before m.steps [] page.root

-- So is each version that a commit of this run made, where it and the one before it are still kept.
abbrev pub AreMadeOf : Scene → Type 0
AreMadeOf scene =
    (k place : ℕ) (m : Made) (file : LaidFile) (before version : LaidVersion)
    → slice_get scene.standing.made k ≡ Some m → 1 ≤ m.object
    → slice_get scene.store.files (m.object - 1) ≡ Some file
    → slice_get file.versions place ≡ Some before
    → slice_get file.versions (suc place) ≡ Some version → version.serial ≡ m.serial
    → IsMadeOf scene.content m before.block version.block

-- ---- links

-- A client sets the links of an update of several files, this one among them: it has committed the
-- update, and its commit is not answered yet.
pub record IsLinking (s : Standing) (object : ℕ) : Type 0 where
  pub client : ℕ
  pub update : Update
  pub number : 1 ≤ client
  pub is_open : IsOpenAt s client update
  pub several : update.is_super ≡ true
  pub committed : HasNoted s client is_committing
  pub has : has_file object update ≡ true

-- Links are outstanding, and members are named, for files whose links a client sets, and for no
-- others. Objects count from 0 in stores, and from 1 in journals.
pub record AreLinksOf (store : LaidStore) (s : Standing) : Type 0 where
  pub links : (object : ℕ) (file : LaidFile) → slice_get store.files object ≡ Some file
      → IsLinked file ⊎ IsLinking s (suc object)
  pub tops : (version : LaidVersion) (top : IsTop store version) → IsLinking s (suc top.object)
  pub members : (version : LaidVersion) → IsTop store version → (k : ℕ) (member : MemberValue)
      → slice_get version.members k ≡ Some member → IsLinking s member.object

-- ---- blocks

-- How many blocks a client holds, by its number. No client has number 0.
abbrev pub held_by : Standing → ℕ → ℕ
held_by s zero = 0
held_by s (suc k) = (client_of s (suc k)).held

-- How many blocks maintenance under way will free.
abbrev pub freeing_in : Standing → ℕ
freeing_in s = option_map_or (λ (up : Upkeep). up.frees) s.upkeep 0

-- The map knows each block. Kept are block 0, the places, and the blocks that maintenance under way
-- will free, which are no places; every other block is held, by a client that holds so many, or it
-- is free.
pub record IsMapped (scene : Scene) : Type 0 where
  pub size : length scene.states ≡ scene.store.root.blocks
  pub kept : (n : ℕ) → n < length scene.states
      → (state_at scene.states n ≡ Kept)
      ↔ ((n ≡ 0) ⊎ IsPlace scene.places n ⊎ IsPlace scene.freed n)
  pub held : (k : ℕ) → held_count k scene.states ≡ held_by scene.standing k
  pub freed : (n : ℕ) → IsPlace scene.freed n → IsFree scene.store scene.places n
  pub once : IsDistinct nat_eq scene.freed
  pub frees : length scene.freed ≡ freeing_in scene.standing

-- ---- the whole

-- What all clients share: the contents stand for the store, which has the state that the journal
-- leads to; the map knows each block; versions that were made are as they were made, so that walks
-- may go over them; and links are outstanding only while they are set.
pub record IsShared (scene : Scene) : Type 0 where
  pub some : 0 < scene.store.root.blocks
  pub laid : laid scene.content scene.most [] ≡ Ok (scene.store, scene.places)
  pub state : state_in scene.store ≡ scene.standing.state
  pub map : IsMapped scene
  pub made : AreAsMade scene
  pub made_of : AreMadeOf scene
  pub links : AreLinksOf scene.store scene.standing

-- What is told of the last version of each object is so.
abbrev pub AreHeads : Scene → List (Option Head) → Type 0
AreHeads scene heads = heads ≡ heads_of scene.store.files
