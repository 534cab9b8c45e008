-- What a sweep has read so far of the versions of a file, by what the blocks hold now. It looks at pages alone: whether a version page that was read, or
-- that of the version that stays, gets a commit reference or loses its members meanwhile makes no difference.
use Rattle.std.specs.Prelude.{◌≡◌, ◌⊎◌, ◌↔◌, ℕ, zero, suc, ◌<◌, List, [], ◌∷◌, ◌++◌, length, Option, Some, None, slice_get, IsOk, Result}
use Rattle.std.specs.List.{Contains}
use Rattle.page_codec.specs.Values.{PageValue}
use Rattle.page_codec.specs.declared.why.BadPage.{BadPage}
use Rattle.page_places.specs.Places.{Store, block_at, slot_block}
use Rattle.store_model.specs.Laws.{pages_of}
use Rattle.prune_sweep.specs.declared.mark.Mark.{Mark}
use Rattle.prune_sweep.specs.declared.mark.Mark.TheVariants.{Unseen, Next, Wanted, Shared, Found, Kept}
use Rattle.prune_sweep.specs.declared.stage.Stage.{Stage}
use Rattle.prune_sweep.specs.declared.stage.Stage.TheVariants.{New, First, Later}
use Rattle.prune_sweep.specs.declared.progress.Progress.{Progress}
use Rattle.prune_sweep.specs.Marks.{mark_at}
use Rattle.prune_sweep.specs.Sweeps.{SweepState, found_blocks}
use Rattle.prune_sweep.specs.Line.{IsPage, IsPageBefore, IsOwnAt, IsFile, AreLinked, IsFreed}

-- the page was named, of a version that goes
abbrev pub IsGone : Mark → Type 0
IsGone Unseen = ⊥
IsGone Next = ⊥
IsGone (Wanted level) = Unit {0}
IsGone (Shared level) = ⊥
IsGone Found = Unit {0}
IsGone Kept = ⊥

-- the page was named, of the version that stays
abbrev pub IsHeld : Mark → Type 0
IsHeld Unseen = ⊥
IsHeld Next = ⊥
IsHeld (Wanted level) = Unit {0}
IsHeld (Shared level) = Unit {0}
IsHeld Found = ⊥
IsHeld Kept = Unit {0}

-- a new page of the version at place i that is to be read, so many slots below `/`: where it lies
pub record IsWantedAt (pages : Store) (roots : List ℕ) (i n depth : ℕ) : Type 0 where
  pub path : List ℕ
  pub own : IsOwnAt pages roots i path n
  pub level : length path ≡ depth

-- a page of the version at place m that an earlier version has too
pub record IsSharedAt (pages : Store) (roots : List ℕ) (m n depth : ℕ) : Type 0 where
  pub path : List ℕ
  pub root : ℕ
  pub at : slice_get roots m ≡ Some root
  pub lies : block_at pages root path ≡ Some n
  pub before : IsPageBefore pages roots m n
  pub level : length path ≡ depth

-- what a mark says of a block while a version that goes, at place i, is read
abbrev pub SaysGone : Store → List ℕ → ℕ → ℕ → Mark → Type 0
SaysGone pages roots i n Unseen = Unit {0}
SaysGone pages roots i n Next = slice_get roots (suc i) ≡ Some n
SaysGone pages roots i n (Wanted level) = IsWantedAt pages roots i n level
SaysGone pages roots i n (Shared level) = ⊥
SaysGone pages roots i n Found = IsPageBefore pages roots (suc i) n
SaysGone pages roots i n Kept = ⊥

-- and while the version that stays, at place m, is read
abbrev pub SaysHeld : Store → List ℕ → ℕ → ℕ → Mark → Type 0
SaysHeld pages roots m n Unseen = Unit {0}
SaysHeld pages roots m n Next = ⊥
SaysHeld pages roots m n (Wanted level) = IsWantedAt pages roots m n level
SaysHeld pages roots m n (Shared level) = IsSharedAt pages roots m n level
SaysHeld pages roots m n Found = IsPageBefore pages roots m n
SaysHeld pages roots m n Kept = (root : ℕ) × (slice_get roots m ≡ Some root) × IsPage pages root n

-- The versions before place i were read whole, and the page of the next one was not read.
pub record Ready (pages : Store) (roots : List ℕ) (i : ℕ) (mark : ℕ → Mark) : Type 0 where
  pub before : (n : ℕ) → IsPageBefore pages roots i n → mark n ≡ Found
  pub says : (n : ℕ) → (mark n ≡ Unseen) ⊎ (((mark n ≡ Found) × IsPageBefore pages roots i n) ⊎ ((mark n ≡ Next) × (slice_get roots i ≡ Some n)))

-- The version at place i, which goes, is read: whatever was read of it, each page that it names was named; and no new page of it was named but by a page
-- that was read.
pub record Drops (pages : Store) (roots : List ℕ) (i : ℕ) (mark : ℕ → Mark) : Type 0 where
  pub root : ℕ
  pub at : slice_get roots i ≡ Some root
  pub begun : mark root ≡ Found
  pub before : (n : ℕ) → IsPageBefore pages roots i n → mark n ≡ Found
  pub closed : (p : List ℕ) (n : ℕ) (page : PageValue) (s x : ℕ)
      → block_at pages root p ≡ Some n → mark n ≡ Found → pages n ≡ Some page → slot_block page s ≡ Some x → IsGone (mark x)
  pub named : (p : List ℕ) (n s x : ℕ)
      → block_at pages root p ≡ Some n → IsOwnAt pages roots i (p ++ s ∷ []) x → IsGone (mark x) → mark n ≡ Found
  pub says : (n : ℕ) → SaysGone pages roots i n (mark n)

-- The version at place m, which stays, is read: those before it were read whole, and of the pages that they have, those that this one was found to have are
-- no longer found.
pub record Keeps (pages : Store) (roots : List ℕ) (m : ℕ) (mark : ℕ → Mark) : Type 0 where
  pub root : ℕ
  pub at : slice_get roots m ≡ Some root
  pub begun : mark root ≡ Kept
  pub before : (n : ℕ) → IsPageBefore pages roots m n → (mark n ≡ Found) ⊎ IsHeld (mark n)
  pub closed : (p : List ℕ) (n : ℕ) (page : PageValue) (s x : ℕ)
      → block_at pages root p ≡ Some n → mark n ≡ Kept → pages n ≡ Some page → slot_block page s ≡ Some x → IsHeld (mark x)
  pub named : (p : List ℕ) (n s x : ℕ)
      → block_at pages root p ≡ Some n → IsOwnAt pages roots m (p ++ s ∷ []) x → IsHeld (mark x) → mark n ≡ Kept
  pub says : (n : ℕ) → SaysHeld pages roots m n (mark n)

-- the stage while the version at place i is read
abbrev pub stage_at : ℕ → Stage
stage_at zero = First
stage_at (suc i) = Later

-- nothing was read yet; a version that goes is read; or the one that stays
pub data Phase (pages : Store) (roots : List ℕ) (m : ℕ) (known : Progress) : Type 0 where
  starts : Ready pages roots 0 (mark_at known.marks) → known.stage ≡ New → known.after ≡ slice_get roots 0 → known.reached ≡ None → Phase pages roots m known
  goes : (i : ℕ) → i < m → Drops pages roots i (mark_at known.marks) → known.stage ≡ stage_at i → known.after ≡ slice_get roots (suc i)
      → known.reached ≡ None → Phase pages roots m known
  stays : Keeps pages roots m (mark_at known.marks) → known.stage ≡ stage_at m → known.after ≡ None → known.reached ≡ slice_get roots m → Phase pages roots m known

-- the page of the version was not read yet
abbrev pub IsUnread : Mark → Type 0
IsUnread Unseen = Unit {0}
IsUnread Next = Unit {0}
IsUnread (Wanted level) = ⊥
IsUnread (Shared level) = ⊥
IsUnread Found = ⊥
IsUnread Kept = ⊥

-- These contents hold a file with versions in these blocks, of which those before place m go, and the sweep is one of it. Of the versions whose pages were
-- not read yet, each that goes names the one behind it.
pub record Sweeps (content : ℕ → Option (List ℕ)) (roots : List ℕ) (m : ℕ) (known : Progress) : Type 0 where
  pub file : IsFile content (length known.marks) known.upto roots m
  pub linked : AreLinked content roots m (λ root. IsUnread (mark_at known.marks root))
  pub phase : Phase (pages_of content) roots m known

-- the sweep began with this file
abbrev pub Begins : ℕ → ℕ → Option ℕ → SweepState → Type 0
Begins count first upto s =
    (content : ℕ → Option (List ℕ)) (roots : List ℕ) (m : ℕ) → IsFile content count upto roots m → AreLinked content roots m (λ _. Unit {0})
    → slice_get roots 0 ≡ Some first → Sweeps content roots m s.known

-- Where a block holds what was fed, it is not refused, and the sweep goes on with the same file.
abbrev pub GoesOn : SweepState → List ℕ → Result (Unit {0}) BadPage → SweepState → Type 0
GoesOn old bytes result new =
    (content : ℕ → Option (List ℕ)) (roots : List ℕ) (m n : ℕ) → Sweeps content roots m old.known → old.next ≡ Some n → content n ≡ Some bytes
    → IsOk result × Sweeps content roots m new.known

-- Where nothing is needed, what was found is what no kept version has.
abbrev pub FindsFreed : SweepState → Type 0
FindsFreed s =
    (content : ℕ → Option (List ℕ)) (roots : List ℕ) (m : ℕ) → Sweeps content roots m s.known
    → (n : ℕ) → Contains (found_blocks s) n ↔ IsFreed (pages_of content) roots m n

-- The block of the version that stays is known exactly where its page was read.
abbrev pub KnowsReached : Progress → Type 0
KnowsReached known =
    (content : ℕ → Option (List ℕ)) (roots : List ℕ) (m : ℕ) → Sweeps content roots m known
    → (n : ℕ) → (known.reached ≡ Some n) ↔ ((slice_get roots m ≡ Some n) × (mark_at known.marks n ≡ Kept))
