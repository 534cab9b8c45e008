-- What a draft tells of the update that it stands for: the flags, the masks, whether it wrote, and its fresh paths.
use Rattle.std.specs.Prelude.{◌≡◌, ℕ, ◌<◌, ◌↔◌, Bool, true, not, ◌&&◌, ◌||◌, ◌⊎◌, List, [], ◌∷◌, ◌++◌, length, ◌==◌, Option, Some, None}
use Rattle.std.specs.Option.{option_map_or}
use Rattle.std.specs.List.{list_any, list_all}
use Rattle.std.specs.Ordering.{is_lt}
use Rattle.afs_base.specs.Path.{path_cmp, is_prefix}
use Rattle.afs_base.specs.declared.kind.Kind.{Kind}
use Rattle.afs_base.specs.declared.kind.Kind.TheVariants.{Data, Slot}
use Rattle.ref_flags.specs.Flagged.{Flagged, no_flags}
use Rattle.tree_model.specs.Trees.{Tree, every_slot}
use Rattle.tree_model.specs.Accesses.{Place, is_among, all_reads, all_writes, fresh_of}
use Rattle.tree_model.specs.declared.step.Step.{Step}
use Rattle.page_places.specs.Places.{Store, same, has_bit}
use Rattle.draft_model.specs.Views.{Copied, View, copies, live, did_write}
use Rattle.draft_model.specs.Stands.{IsKind, StandsFor}

-- some slot of the mask is set
abbrev pub is_marked : ℕ → Bool
is_marked mask = list_any (has_bit mask) every_slot

-- the flags of a path: C where a page was copied there; R and W of its data; S and M where slots were read and written. Who wrote slots
-- has read them too.
abbrev pub flags_of : Option Copied → Flagged
flags_of None = no_flags
flags_of (Some c) =
    record {
      copied = true;
      read = c.read;
      written = c.written;
      searched = is_marked c.searched || is_marked c.page.modified;
      modified = is_marked c.page.modified;
    }

-- the masks of a path: the slots that were read, and those that were written
abbrev pub searched_of : Option Copied → ℕ
searched_of o = option_map_or (λ c. c.searched) o 0

abbrev pub modified_of : Option Copied → ℕ
modified_of o = option_map_or (λ c. c.page.modified) o 0

-- some slot of the page at p is among these places
abbrev pub has_slot : List Place → List ℕ → Bool
has_slot places p = list_any (λ k. is_among places (p, Slot k)) every_slot

-- R, W, S and M of a path are the reads and writes of the update there
pub record FlagsTold (a : Tree) (steps : List Step) (p : List ℕ) (flags : Flagged) : Type 0 where
  pub read : flags.read ≡ is_among (all_reads a [] steps) (p, Data)
  pub written : flags.written ≡ is_among (all_writes a steps) (p, Data)
  pub searched : flags.searched ≡ has_slot (all_reads a [] steps) p
  pub modified : flags.modified ≡ has_slot (all_writes a steps) p

abbrev pub TellsFlags : View → List ℕ → Flagged → Type 0
TellsFlags d p flags = (store : Store) (root : ℕ) (a : Tree) (steps : List Step) → StandsFor store root a steps d → FlagsTold a steps p flags

-- slot by slot, the masks of a path are the reads and writes of the update there
pub record MasksTold (a : Tree) (steps : List Step) (p : List ℕ) (searched modified : ℕ) : Type 0 where
  pub searched_is : (k : ℕ) → k < 16 → has_bit searched k ≡ is_among (all_reads a [] steps) (p, Slot k)
  pub modified_is : (k : ℕ) → k < 16 → has_bit modified k ≡ is_among (all_writes a steps) (p, Slot k)

abbrev pub TellsMasks : View → List ℕ → ℕ → ℕ → Type 0
TellsMasks d p searched modified =
    (store : Store) (root : ℕ) (a : Tree) (steps : List Step) → StandsFor store root a steps d → MasksTold a steps p searched modified

-- b says whether the update wrote something
abbrev pub TellsWrites : View → Bool → Type 0
TellsWrites d b = (store : Store) (root : ℕ) (a : Tree) (steps : List Step) → StandsFor store root a steps d → b ≡ not (length (all_writes a steps) == 0)

-- the draft wrote something at the path
abbrev pub WroteAt : View → List ℕ → Type 0
WroteAt d p = (k : Kind) × IsKind k × (did_write d p k ≡ true)

-- the draft wrote something
abbrev pub Wrote : View → Type 0
Wrote d = (p : List ℕ) × WroteAt d p

-- the page is live, and something was written on it or below it, dropped pages included
abbrev pub IsFresh : View → List ℕ → Type 0
IsFresh d q = (live (copies d) q ≡ true) × ((r : List ℕ) × WroteAt d (q ++ r))

-- each path stands before those that follow it
abbrev pub are_rising : List (List ℕ) → Bool
are_rising [] = true
are_rising (p ∷ paths) = list_all (λ q. is_lt (path_cmp p q)) paths && are_rising paths

-- the path is one of these
abbrev pub is_one_of : List (List ℕ) → List ℕ → Bool
is_one_of paths q = list_any (λ p. same q p) paths

-- the fresh paths of a draft, in order
pub record AreFresh (d : View) (paths : List (List ℕ)) : Type 0 where
  pub rising : are_rising paths ≡ true
  pub each : (q : List ℕ) → (is_one_of paths q ≡ true) ↔ IsFresh d q

-- these paths are the fresh paths of the update
abbrev pub TellsFresh : View → List (List ℕ) → Type 0
TellsFresh d paths = (store : Store) (root : ℕ) (a : Tree) (steps : List Step) → StandsFor store root a steps d → paths ≡ fresh_of a steps

-- ---- pages that were copied and not accessed

-- the update read or wrote something of the page
abbrev pub is_accessed : Copied → Bool
is_accessed c = (c.read || c.written) || (is_marked c.searched || is_marked c.page.modified)

-- it did so of each live page
abbrev pub IsAccessed : View → Type 0
IsAccessed d = (p : List ℕ) (c : Copied) → d p ≡ Some c → c.live ≡ true → is_accessed c ≡ true

-- .. or the page lies on the way to `end`
abbrev pub IsAccessedBut : View → List ℕ → Type 0
IsAccessedBut d end = (p : List ℕ) (c : Copied) → d p ≡ Some c → c.live ≡ true → (is_accessed c ≡ true) ⊎ (is_prefix p end ≡ true)
