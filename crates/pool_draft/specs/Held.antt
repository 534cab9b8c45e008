-- What a draft in frames holds: the pages of its pool, its rows, which frames of its lease are out, and the root that is picked.
use Rattle.std.specs.Prelude.{ℕ, ◌+◌, ◌-◌, ◌≤◌, suc, nat_eq, if◌then◌else◌, List, [], ◌∷◌, length, map}
use Rattle.std.specs.List.Sorted.{IsStrictlySortedBy}
use Rattle.afs_base.specs.Path.{path_cmp}
use Rattle.page_codec.specs.Values.{PageValue}
use Rattle.draft_model.specs.Entries.{Entry}
use Rattle.frame_pool.specs.Leasing.{Leased, left, IsOf}
use Rattle.pool_draft.specs.declared.row.Row.{Row}
use Rattle.pool_draft.specs.Forest.{below}
use Rattle.pool_draft.specs.Rows.{key_of, forest, frames_of, AreApart, AreAllOut, AreShort}

pub record Held : Type 0 where
  pub pages : List PageValue
  pub rows : List Row
  pub run : Leased
  pub root : ℕ

-- the pages of a root, and of the one that is picked
abbrev pub tree_of : Held → ℕ → List Entry
tree_of h root = below root (forest h.pages h.rows)

abbrev pub picked_tree : Held → List Entry
picked_tree h = tree_of h h.root

-- what holds of the rows and frames at any time
pub record IsHeld (h : Held) : Type 0 where
  pub ordered : IsStrictlySortedBy path_cmp (map key_of h.rows)
  pub apart : AreApart (frames_of h.rows)
  pub out : AreAllOut h.run (frames_of h.rows)
  pub short : AreShort h.rows
  pub of : IsOf h.run (length h.pages)
  pub room : length h.rows + left h.run ≤ 1024

-- what a change of the picked root's pages leaves: the pages of the other roots, and how many frames there are
pub record Beside : Type 0 where
  pub root : ℕ
  pub trees : ℕ → List Entry
  pub more : ℕ
  pub frames : ℕ
  pub pool : ℕ

-- how many rows are of other roots
abbrev pub more_rows : ℕ → List Row → ℕ
more_rows root [] = 0
more_rows root (r ∷ rows) = if nat_eq r.key.root root then more_rows root rows else suc (more_rows root rows)

abbrev pub beside : Held → Beside
beside h =
    record {
      root = h.root;
      trees = λ k. if nat_eq k h.root then [] else tree_of h k;
      more = more_rows h.root h.rows;
      frames = length h.rows + left h.run;
      pool = length h.pages;
    }

-- how many pages the picked root can have
abbrev pub space_of : Beside → ℕ
space_of b = b.frames - b.more
