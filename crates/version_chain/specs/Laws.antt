-- What the blocks hold while the places of a flush are written, and after the last one: always of the contents as they are.
use Rattle.std.specs.Prelude.{◌≡◌, ◌≢◌, ℕ, ◌<◌, true, List, [], length, Option, Some, slice_get}
use Rattle.tree_model.specs.declared.step.Step.{Step}
use Rattle.tree_model.specs.Trees.{Tree, tree_after}
use Rattle.page_places.specs.Places.{Holds}
use Rattle.draft_model.specs.Views.{View}
use Rattle.draft_model.specs.Stands.{StandsFor}
use Rattle.draft_model.specs.Flush.{Placed, IsPlaced, block_of, SharesRest, in_turn, is_block_of, are_apart}
use Rattle.store_model.specs.Laws.{pages_of}
use Rattle.version_chain.specs.Flush.{Plan, Base, IsWritten, GivesNext}

-- the bytes of each block, where it has any
abbrev pub Content : Type 0
Content = ℕ → Option (List ℕ)

-- each place that was given out holds what is written at its path
abbrev pub HasWritten : View → Base → Plan → Content → Type 0
HasWritten d base plan content =
    (k : ℕ) (x : Placed) → k < plan.written → slice_get (in_turn plan.placed) k ≡ Some x
    → (bytes : List ℕ) × (content x.block ≡ Some bytes) × IsWritten d base plan x.path bytes

-- one block has these bytes now, and every other block is as it was
pub record PutsBlock (block : ℕ) (bytes : List ℕ) (old new : Content) : Type 0 where
  pub here : new block ≡ Some bytes
  pub others : (n : ℕ) → n ≢ block → new n ≡ old n

-- the blocks of the places are as they were
abbrev pub SamePlaces : List Placed → Content → Content → Type 0
SamePlaces placed old new = (b : ℕ) → is_block_of placed b ≡ true → new b ≡ old b

-- writing the block that was given out next is one place more
abbrev pub NextLaw : Type 0
NextLaw =
    (d : View) (base : Base) (old new : Plan) (block : ℕ) (bytes : List ℕ) (content after : Content)
    → are_apart old.placed ≡ true → HasWritten d base old content → GivesNext d base old new block bytes → PutsBlock block bytes content after
    → HasWritten d base new after

-- what others write meanwhile, into blocks that are no places, changes nothing of it
abbrev pub OthersLaw : Type 0
OthersLaw =
    (d : View) (base : Base) (plan : Plan) (content after : Content)
    → HasWritten d base plan content → SamePlaces plan.placed content after → HasWritten d base plan after

-- After all places were written the new version page stands for the draft's tree: from its block down the blocks hold the tree of the
-- base after the update's steps, and the pages that were not written are in the blocks that they had.
abbrev pub WholeLaw : Type 0
WholeLaw =
    (d : View) (base : Base) (plan : Plan) (content : Content) (root top : ℕ) (a : Tree) (steps : List Step)
    → StandsFor (pages_of content) root a steps d → IsPlaced d plan.placed → block_of plan.placed [] ≡ Some top
    → HasWritten d base plan content → plan.written ≡ length plan.placed
    → Holds (pages_of content) top (tree_after a steps)
    × SharesRest plan.placed (pages_of content) root (pages_of content) top (tree_after a steps)
