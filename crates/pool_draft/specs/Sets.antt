-- A set of drafts: what it shows of each root, and what its calls leave.
use Rattle.std.specs.Prelude.{◌≡◌, ◌≢◌, ℕ, ◌+◌, ◌<◌, ◌≤◌, length, slice_get, Option}
use Rattle.page_codec.specs.Values.{VersionValue}
use Rattle.draft_model.specs.Views.{View}
use Rattle.draft_model.specs.Entries.{shown}
use Rattle.draft_model.specs.Steps.{begun}
use Rattle.draft_model.specs.Stands.{Begins}
use Rattle.frame_pool.specs.Leasing.{left}
use Rattle.pool_draft.specs.declared.base.Base.{Base}
use Rattle.pool_draft.specs.declared.pool_set.PoolSet.{PoolSet}
use Rattle.pool_draft.specs.Held.{tree_of, beside}
use Rattle.pool_draft.specs.Roots.{OtherDrafts, other_drafts, root_in, object_in, serial_in}

-- how many roots there are, and which one is picked
abbrev pub roots_of : PoolSet → ℕ
roots_of s = length s.bases.items

abbrev pub picked_of : PoolSet → ℕ
picked_of s = s.pages.root

-- what the draft of a root shows, and the version that it is based on
abbrev pub view_at : PoolSet → ℕ → View
view_at s k = shown (tree_of s.pages k)

abbrev pub base_at : PoolSet → ℕ → Option Base
base_at s k = slice_get s.bases.items k

-- how many frames there are, with those that the lease can still give
abbrev pub frames_in : PoolSet → ℕ
frames_in s = length s.pages.rows + left s.pages.run

-- what no call of the picked draft changes
abbrev pub others_of : PoolSet → OtherDrafts
others_of s = other_drafts s.bases.items (beside s.pages)

-- all drafts are as they were, and so are the counts over them
pub record AreSameDrafts (old new : PoolSet) : Type 0 where
  pub bases : new.bases.items ≡ old.bases.items
  pub views : (k : ℕ) → view_at new k ≡ view_at old k
  pub count : new.count ≡ old.count
  pub fed : new.fed ≡ old.fed
  pub frames : frames_in new ≡ frames_in old

-- the version in block `at` was added as the last root, with no step done; all else is as it was
pub record IsAdded (old new : PoolSet) (at : ℕ) (version : VersionValue) : Type 0 where
  pub roots : roots_of new ≡ roots_of old + 1
  pub view : view_at new (roots_of old) ≡ begun version.page
  pub begins : Begins (view_at new (roots_of old)) at version.page
  pub block : root_in (base_at new (roots_of old)) ≡ at
  pub object : object_in (base_at new (roots_of old)) ≡ version.object
  pub serial : serial_in (base_at new (roots_of old)) ≡ version.serial
  pub views : (k : ℕ) → k ≢ roots_of old → view_at new k ≡ view_at old k
  pub bases : (k : ℕ) → k < roots_of old → base_at new k ≡ base_at old k
  pub picked : picked_of new ≡ picked_of old
  pub count : new.count ≡ old.count
  pub fed : new.fed ≡ old.fed
  pub frames : frames_in new ≡ frames_in old

-- The set has one root, the version in block `at`, which is picked; no step is done, and no page was fed.
pub record IsBegun (s : PoolSet) (at : ℕ) (version : VersionValue) : Type 0 where
  pub roots : roots_of s ≡ 1
  pub picked : picked_of s ≡ 0
  pub view : view_at s (picked_of s) ≡ begun version.page
  pub begins : Begins (view_at s (picked_of s)) at version.page
  pub block : root_in (base_at s (picked_of s)) ≡ at
  pub object : object_in (base_at s (picked_of s)) ≡ version.object
  pub serial : serial_in (base_at s (picked_of s)) ≡ version.serial
  pub count : s.count ≡ 0
  pub fed : s.fed ≡ 0

-- where a call leaves the others, each draft that is not picked shows what it showed, and has its base
abbrev pub OthersLaw : Type 0
OthersLaw =
    (s t : PoolSet) → others_of t ≡ others_of s → (k : ℕ) → k ≢ picked_of s
    → (view_at t k ≡ view_at s k) × (base_at t k ≡ base_at s k)

-- Every set has at least 921 frames, and a call that leaves the others leaves it as many; the roots stay as many, and the picked one so.
pub record FramesLaw : Type 0 where
  pub enough : (s : PoolSet) → 921 ≤ frames_in s
  pub frames : (s t : PoolSet) → others_of t ≡ others_of s → frames_in t ≡ frames_in s
  pub roots : (s t : PoolSet) → others_of t ≡ others_of s → roots_of t ≡ roots_of s
  pub picked : (s t : PoolSet) → others_of t ≡ others_of s → picked_of t ≡ picked_of s

-- where a version was added to a set without roots and then picked, the set has that version alone
abbrev pub BegunLaw : Type 0
BegunLaw =
    (s t u : PoolSet) (at : ℕ) (version : VersionValue) → roots_of s ≡ 0 → s.count ≡ 0 → s.fed ≡ 0
    → IsAdded s t at version → picked_of u ≡ 0 → AreSameDrafts t u → IsBegun u at version
