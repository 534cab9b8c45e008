-- A later version of a file beside the one that an update works on: where its pages lie, and what its own update did to them.
use Rattle.std.specs.Prelude.{◌≡◌, ℕ, ◌<◌, Bool, true, false, ◌&&◌, ◌||◌, List, [], ◌∷◌, ◌++◌, Some, slice_get}
use Rattle.std.specs.Option.{option_map_or}
use Rattle.std.specs.List.{list_any, list_all}
use Rattle.afs_base.specs.Path.{are_slots}
use Rattle.afs_base.specs.declared.kind.Kind.TheVariants.{Data, Slot}
use Rattle.ref_flags.specs.Flagged.{Flagged, no_flags}
use Rattle.tree_model.specs.declared.step.Step.{Step}
use Rattle.tree_model.specs.Trees.{Tree, has, tree_after}
use Rattle.tree_model.specs.Accesses.{Place, is_among, all_reads, all_writes, touches, target}
use Rattle.page_codec.specs.Values.{PageValue}
use Rattle.page_places.specs.Places.{Store, Holds, same, block_at, has_bit}
use Rattle.draft_model.specs.Flush.{AreWhole}

-- one of these places is on the page at p
abbrev pub is_path_of : List Place → List ℕ → Bool
is_path_of places p = list_any (λ x. same p x.0) places

-- the steps read or wrote something of the page at p
abbrev pub did_access : Tree → List Step → List ℕ → Bool
did_access a steps p = is_path_of (all_reads a [] steps) p || is_path_of (all_writes a steps) p

-- The page at p is the version's own, in a block that was written for it: it is there after the steps, and they wrote at or below it. `/`
-- always is, since it is in the version page.
abbrev pub is_own : Tree → List Step → List ℕ → Bool
is_own a steps p = has (tree_after a steps) p && (same p [] || touches (all_writes a steps) p)

-- the flags of a slot
abbrev pub slot_flags : PageValue → ℕ → Flagged
slot_flags page s = option_map_or (λ r. r.flags) (slice_get page.refs s) no_flags

-- the marks of the page at p that a walk looks at: whether it is the version's own, and whether its data was written
pub record AreMarks (a : Tree) (steps : List Step) (p : List ℕ) (flags : Flagged) : Type 0 where
  pub copied : flags.copied ≡ is_own a steps p
  pub written : flags.copied ≡ true → flags.written ≡ is_among (all_writes a steps) (p, Data)

-- The version in block `root` is what these steps made of the tree a, which the blocks from `base` down hold. What is not its own it shares
-- with that one. A page of its own has the marks of the steps: those of its children in its slots, and in its mask the slots that were
-- written.
pub record IsLater (store : Store) (base root : ℕ) (a : Tree) (steps : List Step) : Type 0 where
  pub holds : Holds store root (tree_after a steps)
  pub kept : list_all (λ step. are_slots (target step)) steps ≡ true
  pub whole : AreWhole store
  pub shares : (p : List ℕ) → has (tree_after a steps) p ≡ true → is_own a steps p ≡ false → block_at store root p ≡ block_at store base p
  pub marks : (p : List ℕ) (b : ℕ) (page : PageValue) (s : ℕ) → is_own a steps p ≡ true → block_at store root p ≡ Some b → store b ≡ Some page → s < 16
      → AreMarks a steps (p ++ s ∷ []) (slot_flags page s)
  pub mask : (p : List ℕ) (b : ℕ) (page : PageValue) (s : ℕ) → is_own a steps p ≡ true → block_at store root p ≡ Some b → store b ≡ Some page → s < 16
      → has_bit page.modified s ≡ is_among (all_writes a steps) (p, Slot s)
