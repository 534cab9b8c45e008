-- How a walk ends.
use Rattle.std.specs.Prelude.{◌≡◌, ℕ, ◌≤◌, true, List, [], length, Option, Some, None}
use Rattle.tree_model.specs.declared.step.Step.{Step}
use Rattle.tree_model.specs.Trees.{Tree, tree_after}
use Rattle.tree_model.specs.Accesses.{Place, all_reads, all_writes, reads_of, visible_of, IsClash}
use Rattle.page_places.specs.Places.{Store}
use Rattle.draft_model.specs.Views.{View}
use Rattle.draft_model.specs.Stands.{StandsFor}
use Rattle.draft_model.specs.Told.{are_rising, is_one_of}
use Rattle.joint_walk.specs.Walks.{is_shared}

-- these paths, in order, are those that my steps accessed and that are the later version's own
pub record AreShared (a : Tree) (mine other : List Step) (paths : List (List ℕ)) : Type 0 where
  pub rising : are_rising paths ≡ true
  pub each : (p : List ℕ) → is_one_of paths p ≡ is_shared a mine other p

-- Without a clash: there is none, the draft stands for its steps on the later tree, with the same accesses, and as many pages were fed as
-- both updates share. The accesses are those on the tree a, before the later version, so that one walk may follow another.
pub record IsCarried (store : Store) (root : ℕ) (a : Tree) (mine other : List Step) (fed : ℕ) (d : View) : Type 0 where
  pub none : IsClash (reads_of a mine) (visible_of a other) None
  pub stands : StandsFor store root (tree_after a other) mine d
  pub reads : all_reads (tree_after a other) [] mine ≡ all_reads a [] mine
  pub writes : all_writes (tree_after a other) mine ≡ all_writes a mine
  pub exactly : (paths : List (List ℕ)) → AreShared a mine other paths → fed ≡ length paths

-- with the least clash: no more pages were fed than both updates share
pub record IsRefused (a : Tree) (mine other : List Step) (fed : ℕ) (least : Place) : Type 0 where
  pub clash : IsClash (reads_of a mine) (visible_of a other) (Some least)
  pub most : (paths : List (List ℕ)) → AreShared a mine other paths → fed ≤ length paths

abbrev pub EndsBy : Store → ℕ → Tree → List Step → List Step → ℕ → View → Option Place → Type 0
EndsBy store root a mine other fed d None = IsCarried store root a mine other fed d
EndsBy store root a mine other fed d (Some x) = IsRefused a mine other fed x
