-- What a draft stands for. It keeps neither its base nor its steps: this is a relation between what it shows, the blocks, the base and the steps.
use Rattle.std.specs.Prelude.{◌≡◌, ℕ, ◌<◌, Bool, true, false, List, [], ◌∷◌, ◌++◌, length, Option, Some, None}
use Rattle.std.specs.List.{list_all}
use Rattle.std.specs.FinMap as map
use Rattle.afs_base.specs.Path.{is_prefix, are_slots}
use Rattle.afs_base.specs.declared.kind.Kind.{Kind}
use Rattle.afs_base.specs.declared.kind.Kind.TheVariants.{Data, Slot}
use Rattle.tree_model.specs.Trees.{Tree, has, IsTree, tree_after, reply_of}
use Rattle.tree_model.specs.Accesses.{Place, is_among, target, all_reads, all_writes}
use Rattle.tree_model.specs.declared.step.Step.{Step}
use Rattle.tree_model.specs.declared.step.Reply.{Reply}
use Rattle.page_codec.specs.Values.{PageValue}
use Rattle.page_places.specs.Places.{Store, Holds, block_at, slot_block, has_bit}
use Rattle.draft_model.specs.Views.{View, PageCopy, Copies, copies, live, LiveAt, IsUncopied, did_read, did_write, Wants}

-- block b of the base holds the page at q, and below q the tree is as in the base: the draft copied nothing there
pub record IsShared (store : Store) (root : ℕ) (a t : Tree) (h : Copies) (q : List ℕ) (b : ℕ) : Type 0 where
  pub block : block_at store root q ≡ Some b
  pub as_base : (r : List ℕ) → map.get t (q ++ r) ≡ map.get a (q ++ r)
  pub uncopied : IsUncopied h q

-- What a slot of a live page says of the child at q. `changed` is the slot's bit in the page's mask, `alive` that the child is live.
-- A live child without a block was made. A child that is not live is not there where the slot names no block, and where the slot was not
-- changed either, nothing was ever copied there. Else it is a page of the base.
abbrev pub SlotStands : Store → ℕ → Tree → Tree → List Place → Copies → List ℕ → Bool → Bool → Option ℕ → Type 0
SlotStands store root a t writes h q changed true None = is_among writes (q, Data) ≡ true
SlotStands store root a t writes h q changed true (Some b) = block_at store root q ≡ Some b
SlotStands store root a t writes h q changed false None = (has t q ≡ false) × (changed ≡ false → IsUncopied h q)
SlotStands store root a t writes h q changed false (Some b) = IsShared store root a t h q b × (changed ≡ false)

-- The live pages are pages of the tree t, `/` among them and with each page those above it; where a slot of theirs leads out of
-- them, the tree is as the slot says.
pub record Shape (store : Store) (root : ℕ) (a t : Tree) (writes : List Place) (h : Copies) : Type 0 where
  pub tree : IsTree t
  pub top : live h [] ≡ true
  pub above : (p q : List ℕ) → is_prefix q p ≡ true → live h p ≡ true → live h q ≡ true
  pub data_is : (p : List ℕ) (c : PageCopy) → LiveAt h p c → map.get t p ≡ Some c.page.bytes
  pub level_is : (p : List ℕ) (c : PageCopy) → LiveAt h p c → c.page.level ≡ length p
  pub slot : (p : List ℕ) (s : ℕ) (c : PageCopy) → LiveAt h p c
      → SlotStands store root a t writes h (p ++ s ∷ []) (has_bit c.page.modified s) (live h (p ++ s ∷ [])) (slot_block c.page s)
  pub slots : (p : List ℕ) (c : PageCopy) → h p ≡ Some c → are_slots p ≡ true

-- the data of a page, or one of its sixteen slots
abbrev pub IsKind : Kind → Type 0
IsKind Data = Unit {0}
IsKind (Slot k) = k < 16

-- the draft shows the tree t, and that these places were read and written on the way to it
pub record Stands (store : Store) (root : ℕ) (a t : Tree) (reads writes : List Place) (d : View) : Type 0 where
  pub shape : Shape store root a t writes (copies d)
  pub read : (p : List ℕ) (k : Kind) → IsKind k → did_read d p k ≡ is_among reads (p, k)
  pub written : (p : List ℕ) (k : Kind) → IsKind k → did_write d p k ≡ is_among writes (p, k)

-- the draft stands for these steps, whose paths have slots below 16, run on the tree that the blocks from the root down hold
pub record StandsFor (store : Store) (root : ℕ) (a : Tree) (steps : List Step) (d : View) : Type 0 where
  pub base : Holds store root a
  pub kept : list_all (λ step. are_slots (target step)) steps ≡ true
  pub stands : Stands store root a (tree_after a steps) (all_reads a [] steps) (all_writes a steps) d

-- each block to which the root led shows the page that it showed
abbrev pub SameBase : Store → Store → ℕ → Type 0
SameBase old new root = (p : List ℕ) (b : ℕ) → block_at old root p ≡ Some b → new b ≡ old b

-- whatever the draft stood for, the answer is that of the tree, and it now stands for one step more
abbrev pub Runs : View → View → Step → Reply → Type 0
Runs old new step reply =
    (store : Store) (root : ℕ) (a : Tree) (steps : List Step) → StandsFor store root a steps old
    → (reply ≡ reply_of (tree_after a steps) step) × StandsFor store root a (steps ++ step ∷ []) new

-- whatever the draft stood for, it still does, where the page that was copied is the base's page in the wanted block
abbrev pub Feeds : View → View → List ℕ → PageValue → Type 0
Feeds old new q page =
    (store : Store) (root : ℕ) (a : Tree) (steps : List Step) (end : List ℕ) (b : ℕ)
    → StandsFor store root a steps old → Wants (copies old) end q b → store b ≡ Some page → StandsFor store root a steps new

-- it stands for no steps on any base whose root block decodes to the page
abbrev pub Begins : View → ℕ → PageValue → Type 0
Begins d root page = (store : Store) (a : Tree) → Holds store root a → store root ≡ Some page → StandsFor store root a [] d
