-- What a walk asks of a later version is what a flush makes.
use Rattle.std.specs.Prelude.{◌≡◌, ℕ, List, [], Some}
use Rattle.tree_model.specs.declared.step.Step.{Step}
use Rattle.tree_model.specs.Trees.{Tree}
use Rattle.page_places.specs.Places.{Store}
use Rattle.draft_model.specs.Views.{View}
use Rattle.draft_model.specs.Stands.{StandsFor}
use Rattle.draft_model.specs.Flush.{Placed, IsPlaced, block_of, copied_flags, AreWhole, Flushed}
use Rattle.joint_walk.specs.Later.{IsLater, AreMarks}

-- Where the pages of a draft were written to their blocks, the version in the block of `/` is a later version, made by the draft's steps of
-- the tree of its base, and the flags of `/` with "copied" are its marks.
abbrev pub LaterLaw : Type 0
LaterLaw =
    (d : View) (placed : List Placed) (old new : Store) (base root : ℕ) (a : Tree) (steps : List Step)
    → StandsFor old base a steps d → IsPlaced d placed → Flushed d placed base old new → AreWhole new → block_of placed [] ≡ Some root
    → IsLater new base root a steps × AreMarks a steps [] (copied_flags (d []))
