-- Drafts of several roots in the frames of one lease: what holds of them at any time, and what a call of one of them leaves.
use Rattle.std.specs.Prelude.{◌≡◌, ℕ, ◌+◌, ◌*◌, ◌≤◌, ◌<◌, true, false, nat_eq, if◌then◌else◌, List, [], length, slice_get, Option, None}
use Rattle.std.specs.Option.{option_map_or}
use Rattle.std.specs.Map.{keys_of}
use Rattle.std.specs.Coded.{Coded-set, coded_bool, coded_ℕ, le_prop}
use Rattle.page_codec.specs.Values.{PageValue}
use Rattle.draft_model.specs.Views.{copies, live}
use Rattle.draft_model.specs.Steps.{begun}
use Rattle.draft_model.specs.Told.{are_rising, AreFresh}
use Rattle.draft_model.specs.Entries.{shown, fresh_paths}
use Rattle.draft_model.proofs.Entries.{all_fresh, few_fresh}
use Rattle.draft_tree.specs.Drafts.{HasLevels, HasLevels-prop}
use Rattle.frame_pool.specs.Leasing.{left}
use Rattle.pool_draft.specs.declared.base.Base.{Base}
use Rattle.pool_draft.specs.Held.{Held, Beside, picked_tree, tree_of}

-- ---- what holds at any time

-- so many roots are drafts, after so many steps and pages that were fed over all of them: the paths of each are in order, its page `/` is
-- live, its pages have their levels, and no other root has pages; there are at most seventeen, a step adds at most seven pages, and there
-- are at least 921 frames
pub record AreDrafts (h : Held) (roots count fed : ℕ) : Type 0 where
  pub order : (k : ℕ) → k < roots → are_rising (keys_of (tree_of h k)) ≡ true
  pub top : (k : ℕ) → k < roots → live (copies (shown (tree_of h k))) [] ≡ true
  pub levels : (k : ℕ) → k < roots → HasLevels (shown (tree_of h k))
  pub small : (k : ℕ) → k < roots → length (tree_of h k) ≤ 1 + 7 * count + fed
  pub none : (k : ℕ) → roots ≤ k → length (tree_of h k) ≡ 0
  pub within : roots ≤ 17
  pub room : length h.rows ≤ roots + 7 * count + fed
  pub frames : 921 ≤ length h.rows + left h.run

pub AreDrafts-prop : (h : Held) (roots count fed : ℕ) → IsProp (AreDrafts h roots count fed)
AreDrafts-prop h roots count fed a b = λ i. record {
  order = λ k below. Coded-set coded_bool _ _ (a.order k below) (b.order k below) i;
  top = λ k below. Coded-set coded_bool _ _ (a.top k below) (b.top k below) i;
  levels = λ k below. HasLevels-prop (shown (tree_of h k)) (a.levels k below) (b.levels k below) i;
  small = λ k below. le_prop (a.small k below) (b.small k below) i;
  none = λ k past. Coded-set coded_ℕ _ _ (a.none k past) (b.none k past) i;
  within = le_prop a.within b.within i;
  room = le_prop a.room b.room i;
  frames = le_prop a.frames b.frames i;
}

-- so the fresh paths of the picked root are in order, and few
pub fresh_ready : (h : Held) (roots count fed : ℕ) → AreDrafts h roots count fed → h.root < roots
    → AreFresh (shown (picked_tree h)) (fresh_paths (picked_tree h))
fresh_ready h roots count fed drafts ready = all_fresh (picked_tree h) (drafts.order h.root ready)

pub few_ready : (h : Held) (roots count fed : ℕ) → count ≤ 128 → fed ≤ 7 → AreDrafts h roots count fed → h.root < roots
    → length (fresh_paths (picked_tree h)) ≤ 904
few_ready h roots count fed most few drafts ready =
    few_fresh (picked_tree h) count fed (drafts.small h.root ready) most few

-- ---- what a call leaves

-- a root that had no pages has its page `/` alone, and all other roots are as they were
pub record IsRootBegun (old : Held) (added : ℕ) (page : PageValue) (new : Held) : Type 0 where
  pub begins : (p : List ℕ) → shown (tree_of new added) p ≡ begun page p
  pub order : are_rising (keys_of (tree_of new added)) ≡ true
  pub small : length (tree_of new added) ≤ 1
  pub others : (k : ℕ) → nat_eq k added ≡ false → tree_of new k ≡ tree_of old k
  pub rows : length new.rows ≤ length old.rows + 1
  pub frames : length new.rows + left new.run ≡ length old.rows + left old.run
  pub picked : new.root ≡ old.root

-- the drafts beside the one that is picked: their pages, the versions that they are based on, and how many there are with it
pub record OtherDrafts : Type 0 where
  pub pages : Beside
  pub bases : ℕ → Option Base
  pub roots : ℕ

abbrev pub other_drafts : List Base → Beside → OtherDrafts
other_drafts bases pages =
    record {
      pages = pages;
      bases = λ k. if nat_eq k pages.root then None else slice_get bases k;
      roots = length bases;
    }

-- how many frames there are, with those that the lease can still give
abbrev pub frames_beside : OtherDrafts → ℕ
frames_beside o = o.pages.frames

-- the block, the file and the serial of a version
abbrev pub root_in : Option Base → ℕ
root_in o = option_map_or (λ b. b.root) o 0

abbrev pub object_in : Option Base → ℕ
object_in o = option_map_or (λ b. b.object) o 0

abbrev pub serial_in : Option Base → ℕ
serial_in o = option_map_or (λ b. b.serial) o 0
