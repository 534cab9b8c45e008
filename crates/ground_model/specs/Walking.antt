-- The walk of a client's draft over the version after those that it is merged with.
use Rattle.std.specs.Prelude.{◌≡◌, ℕ, ◌+◌, ◌<◌, List, [], length, Some, Contains}
use Rattle.draft_model.specs.Stands.{SameBase}
use Rattle.draft_model.specs.Views.{View}
use Rattle.joint_walk.specs.Calls.{Starts}
use Rattle.joint_walk.specs.Endings.{IsCarried}
use Rattle.joint_walk.specs.Later.{AreMarks, IsLater}
use Rattle.joint_walk.specs.Walks.{IsUnderWay, WalkValue}
use Rattle.page_codec.specs.Values.{VersionValue}
use Rattle.service_model.specs.Sound.{IsOn, IsSound}
use Rattle.service_model.specs.Standing.{Made, Scripts, Work, serial_of}
use Rattle.store_changes.specs.Writes.{Content}
use Rattle.store_model.specs.Changes.{version_in_block}
use Rattle.store_model.specs.Laws.{pages_of}
use Rattle.tree_model.specs.declared.step.Step.{Step}
use Rattle.tree_model.specs.Trees.{Tree, tree_after}
use Rattle.ground_model.specs.Own.{HasMerged, IsBase}
use Rattle.ground_model.specs.Scenes.{Scene, IsShared}

-- The version after those that a draft is merged with lies in block `next`. It is known by the
-- update m, no other has its serial, and its version page is what a walk over it begins on.
pub record IsAhead (scene : Scene) (w : Work) (upto root : ℕ) (tree : Tree) (next : ℕ) (m : Made)
    (page : VersionValue) : Type 0 where
  pub base : IsBase scene w.object (upto + 1) next (tree_after tree m.steps)
  pub listed : Contains scene.standing.made m
  pub of_object : m.object ≡ w.object
  pub serial : m.serial ≡ upto + 1
  pub before : m.before ≡ tree
  pub only : (n : Made) → Contains scene.standing.made n → n.object ≡ w.object
      → n.serial ≡ upto + 1 → n ≡ m
  pub held : version_in_block scene.content next ≡ Some page
  pub shows : pages_of scene.content next ≡ Some page.page
  pub page_serial : page.serial ≡ upto + 1
  pub page_base : page.base ≡ Some root
  pub later : IsLater (pages_of scene.content) root next tree m.steps
  pub marks : AreMarks tree m.steps [] page.root

-- There is one wherever a draft of an open update is merged with an earlier version than the last.
abbrev pub WalksMayBegin : Type 0
WalksMayBegin =
    (scripts : Scripts) (scene : Scene) (k : ℕ) (w : Work) (upto root : ℕ) (tree : Tree) (d : View)
    → IsShared scene → IsSound scripts scene.standing → IsOn scene.standing k w
    → HasMerged scene w upto root tree d → upto < serial_of scene.standing.state w.object
    → (next : ℕ) × (m : Made) × (page : VersionValue)
    × IsAhead scene w upto root tree next m page

-- A walk that starts on its version page is under way to it, with one page fed.
abbrev pub WalkStarts : Type 0
WalkStarts =
    (scene : Scene) (w : Work) (upto root : ℕ) (tree : Tree) (d e : View) (next : ℕ) (m : Made)
    (page : VersionValue) (walk : WalkValue)
    → HasMerged scene w upto root tree d → IsAhead scene w upto root tree next m page
    → 0 < length w.steps → Starts d e next page.page page.root walk
    → IsUnderWay (pages_of scene.content) root next tree w.steps m.steps 1 walk e

-- A walk stays under way where both versions show the pages that they showed.
abbrev pub WalkStays : Type 0
WalkStays =
    (old new : Content) (base root : ℕ) (a : Tree) (mine other : List Step) (n : ℕ)
    (walk : WalkValue) (d : View)
    → SameBase (pages_of old) (pages_of new) base → SameBase (pages_of old) (pages_of new) root
    → IsUnderWay (pages_of old) base root a mine other n walk d
    → IsUnderWay (pages_of new) base root a mine other n walk d

-- Where it ended without a clash, the draft is merged with that version too.
abbrev pub WalkCarries : Type 0
WalkCarries =
    (scripts : Scripts) (scene : Scene) (w : Work) (upto root : ℕ) (tree : Tree) (d e : View)
    (next : ℕ) (m : Made) (page : VersionValue) (fed : ℕ)
    → IsShared scene → IsSound scripts scene.standing → HasMerged scene w upto root tree d
    → IsAhead scene w upto root tree next m page
    → IsCarried (pages_of scene.content) next tree w.steps m.steps fed e
    → HasMerged scene w (upto + 1) next (tree_after tree m.steps) e
