-- A draft that was flushed on the last version of a file, and the next version that the walk of a
-- store reads where it was.
use Rattle.std.specs.Prelude.{◌≡◌, ◌↔◌, ℕ, suc, ◌+◌, ◌<◌, ◌≤◌, nat_eq, true, false, List, [], ◌∷◌, ◌++◌, length, map, Some, None, Ok, slice_get}
use Rattle.std.specs.List.{list_any}
use Rattle.afs_base.specs.declared.kind.Kind.TheVariants.{Slot}
use Rattle.tree_model.specs.declared.step.Step.{Step}
use Rattle.tree_model.specs.Trees.{Tree, tree_after}
use Rattle.tree_model.specs.Accesses.{is_among, all_writes, fresh_of, written_paths}
use Rattle.page_codec.specs.Values.{MemberValue}
use Rattle.page_places.specs.Places.{has_bit}
use Rattle.draft_model.specs.Views.{View}
use Rattle.draft_model.specs.Stands.{StandsFor}
use Rattle.draft_model.specs.Told.{FlagsTold, is_one_of}
use Rattle.draft_model.specs.Flush.{Placed, IsPlaced, block_of, is_block_of, are_apart}
use Rattle.store_model.specs.Laid.{Node, LaidVersion, LaidFile, last_laid}
use Rattle.store_model.specs.Members.{names_none}
use Rattle.store_model.specs.Chains.{version_at}
use Rattle.store_model.specs.Found.{LaidStore, laid, version_in}
use Rattle.store_model.specs.Laws.{pages_of}
use Rattle.store_model.specs.Changes.{IsTop, NextVersion, files_committed}
use Rattle.store_model.specs.Together.{News, AreNext}
use Rattle.store_model.specs.VersionPages.{AreShared}
use Rattle.store_changes.specs.Stands.{own_in}
use Rattle.version_chain.specs.Flush.{Plan, Base}
use Rattle.version_chain.specs.Laws.{Content, HasWritten}

-- a block of the store that is no place
pub record IsFree (store : LaidStore) (places : List ℕ) (n : ℕ) : Type 0 where
  pub low : 1 ≤ n
  pub high : n < store.root.blocks
  pub free : list_any (nat_eq n) places ≡ false

-- A draft that stands for the steps on the last version of a file, and a flush of it that is done:
-- each of its places is a free block, no two are one, and each holds what is written for it.
-- Objects count from 0 here, and from 1 in what is written.
pub record IsFlushed (content : Content) (store : LaidStore) (places : List ℕ) (object : ℕ)
    (last : LaidVersion) (a : Tree) (steps : List Step)
    (d : View) (base : Base) (plan : Plan) : Type 0 where
  pub file : LaidFile
  pub listed : slice_get store.files object ≡ Some file
  pub last_is : last_laid file.versions ≡ Some last
  pub root_is : base.root ≡ last.block
  pub object_is : base.object ≡ suc object
  pub serial_is : base.serial ≡ last.serial
  pub stands : StandsFor (pages_of content) last.block a steps d
  pub placed : IsPlaced d plan.placed
  pub apart : are_apart plan.placed ≡ true
  pub written : HasWritten d base plan content
  pub all : plan.written ≡ length plan.placed
  pub mine : (k : ℕ) (x : Placed) → slice_get plan.placed k ≡ Some x → IsFree store places x.block

-- what an update did at a path, as the page there tells it: the flags of the reference to it, and
-- the mask of the slots that were written
pub record IsMarked (a : Tree) (steps : List Step) (path : List ℕ) (node : Node) : Type 0 where
  pub copied : node.flags.copied ≡ true
  pub flags : FlagsTold a steps path node.flags
  pub slots : (k : ℕ) → k < 16
      → has_bit node.modified k ≡ is_among (all_writes a steps) (path, Slot k)

-- The next version: it is read after the last one, whatever block names it, from any places that
-- none of its new blocks is among. The new blocks are those of the flush. It has the serial after
-- the last one's and the tree of the steps; its own pages are at the fresh paths, or at `/` alone
-- where nothing was written, with the marks of the update; every other page is shared with the last
-- version, and lies where that has it.
pub record IsNextOf (content : Content) (count object : ℕ) (last : LaidVersion) (a : Tree)
    (steps : List Step) (plan : Plan) (version : LaidVersion) (new : List ℕ) : Type 0 where
  pub block : block_of plan.placed [] ≡ Some version.block
  pub serial : version.serial ≡ last.serial + 1
  pub nil : version.commit ≡ None
  pub members : version.members ≡ plan.members
  pub tree : (version_in version).tree ≡ tree_after a steps
  pub fresh : (version_in version).fresh ≡ written_paths (fresh_of a steps)
  pub marks : (path : List ℕ) (node : Node) → own_in path version.nodes ≡ Some node
      → IsMarked a steps path node
  pub own : (path : List ℕ) → is_one_of (written_paths (fresh_of a steps)) path ≡ true
      → (node : Node) × (own_in path version.nodes ≡ Some node)
  pub shared : AreShared last.nodes version.nodes
  pub places : (n : ℕ) → (list_any (nat_eq n) new ≡ true) ↔ (is_block_of plan.placed n ≡ true)
  pub read : (namer : ℕ) (seen : List ℕ)
      → ((n : ℕ) → list_any (nat_eq n) new ≡ true → list_any (nat_eq n) seen ≡ true → ⊥)
      → version_at
      (record { content = content; count = count })
      (suc object) namer version.block (Some last) seen
      ≡ Ok (version, new ++ seen)

-- What was flushed is the next version of its file.
abbrev pub FlushedIsRead : Type 0
FlushedIsRead =
    (content : Content) (most : ℕ) (store : LaidStore) (places : List ℕ)
    → laid content most [] ≡ Ok (store, places)
    → (object : ℕ) (last : LaidVersion) (a : Tree) (steps : List Step) (d : View) (base : Base)
    (plan : Plan)
    → IsFlushed content store places object last a steps d base plan
    → (version : LaidVersion) × (new : List ℕ)
    × IsNextOf content store.root.blocks object last a steps plan version new

-- the next version of a file, as a commit of it wants it: read from the store's places, and its
-- members after it
pub record IsReady (content : Content) (store : LaidStore) (places : List ℕ) (object : ℕ)
    (last version : LaidVersion) (own after : List ℕ) : Type 0 where
  pub next : NextVersion content store places
  pub object_is : next.object ≡ object
  pub base_is : next.base ≡ last
  pub block_is : next.block ≡ version.block
  pub version_is : next.version ≡ version
  pub own_is : next.own ≡ own
  pub after_is : next.after ≡ after

-- no version of the store names a member of one of these objects, which count from 1
abbrev pub NamesNoneOf : LaidStore → List ℕ → Type 0
NamesNoneOf store objects =
    (top : LaidVersion) → IsTop store top → (k : ℕ) (member : MemberValue)
    → slice_get top.members k ≡ Some member
    → list_any (nat_eq member.object) objects ≡ false

-- Where no link to or from the file is outstanding and the flush names no members, it is ready to
-- be committed alone.
abbrev pub FlushedIsReady : Type 0
FlushedIsReady =
    (content : Content) (most : ℕ) (store : LaidStore) (places : List ℕ)
    → laid content most [] ≡ Ok (store, places)
    → (object : ℕ) (last : LaidVersion) (a : Tree) (steps : List Step) (d : View) (base : Base)
    (plan : Plan)
    → IsFlushed content store places object last a steps d base plan → plan.members ≡ []
    → names_none last ≡ true → NamesNoneOf store (suc object ∷ [])
    → (version : LaidVersion) (new : List ℕ)
    → IsNextOf content store.root.blocks object last a steps plan version new
    → IsReady content store places object last version (new ++ places) (new ++ places)
    × (names_none version ≡ true)

-- And so it is with members, where each of them is the next version of its own file, read after it.
abbrev pub FlushedTogether : Type 0
FlushedTogether =
    (content : Content) (most : ℕ) (store : LaidStore) (places : List ℕ)
    → laid content most [] ≡ Ok (store, places)
    → (object : ℕ) (last : LaidVersion) (a : Tree) (steps : List Step) (d : View) (base : Base)
    (plan : Plan)
    → IsFlushed content store places object last a steps d base plan → names_none last ≡ true
    → NamesNoneOf store (suc object ∷ map (λ m. m.object) plan.members)
    → (version : LaidVersion) (new : List ℕ)
    → IsNextOf content store.root.blocks object last a steps plan version new
    → (news : List News) (after : List ℕ) → map (λ x. x.member) news ≡ plan.members
    → AreNext
    (record { content = content; count = store.root.blocks })
    (record { object = suc object; version = version })
    news (files_committed object version.block version store) (new ++ places) after
    → IsReady content store places object last version (new ++ places) after
