-- The laws by which every draft meets its promises.
use Rattle.std.specs.Prelude.{◌≡◌, ℕ, Bool, true, ◌↔◌, List, [], length, Some}
use Rattle.afs_base.specs.Path.{are_slots}
use Rattle.tree_model.specs.Trees.{Tree, tree_after}
use Rattle.tree_model.specs.Accesses.{target, end_of}
use Rattle.tree_model.specs.declared.step.Step.{Step}
use Rattle.page_codec.specs.Values.{PageValue}
use Rattle.page_places.specs.Places.{Store, Holds}
use Rattle.draft_model.specs.Views.{View, copies, Wants, WantsNone}
use Rattle.draft_model.specs.Steps.{stepped, reply_in, fed, begun}
use Rattle.draft_model.specs.Stands.{StandsFor, SameBase, Runs, Feeds, Begins}
use Rattle.draft_model.specs.Told.{flags_of, searched_of, modified_of, Wrote, AreFresh, IsAccessed, IsAccessedBut, TellsFlags, TellsMasks, TellsWrites, TellsFresh}
use Rattle.draft_model.specs.Flush.{Placed, IsPlaced, block_of, AreWhole, Flushed, SharesRest}

-- a step for which no page is wanted is a step of the update
abbrev pub StepLaw : Type 0
StepLaw = (d : View) (step : Step) → are_slots (target step) ≡ true → WantsNone (copies d) (end_of step) → Runs d (stepped d step) step (reply_in (copies d) step)

-- copying a wanted page changes nothing of what the draft stands for
abbrev pub FeedLaw : Type 0
FeedLaw = (d : View) (q : List ℕ) (page : PageValue) → are_slots q ≡ true → Feeds d (fed d q page) q page

-- a draft begins as its base, with no step done
abbrev pub BeginLaw : Type 0
BeginLaw = (root : ℕ) (page : PageValue) → Begins (begun page) root page

-- a draft stands for what it stood for, whatever becomes of blocks to which its base does not lead
abbrev pub KeepLaw : Type 0
KeepLaw =
    (old new : Store) (root : ℕ) (a : Tree) (steps : List Step) (d : View)
    → StandsFor old root a steps d → SameBase old new root → StandsFor new root a steps d

-- the page of its base that a draft wants has the level of its path
abbrev pub LevelLaw : Type 0
LevelLaw =
    (store : Store) (root : ℕ) (a : Tree) (steps : List Step) (d : View) (end q : List ℕ) (b : ℕ) (page : PageValue)
    → StandsFor store root a steps d → Wants (copies d) end q b → store b ≡ Some page → page.level ≡ length q

-- A page that is fed for a step lies on the way that the step looks at; after the step every live page was accessed, where each was before
-- but those that were fed for it.
abbrev pub FeedAccessLaw : Type 0
FeedAccessLaw =
    (d : View) (end q : List ℕ) (b : ℕ) (page : PageValue)
    → IsAccessedBut d end → Wants (copies d) end q b → IsAccessedBut (fed d q page) end

abbrev pub StepAccessLaw : Type 0
StepAccessLaw = (d : View) (step : Step) → are_slots (target step) ≡ true → IsAccessedBut d (end_of step) → IsAccessed (stepped d step)

-- the flags of every path, those of dropped pages included, are the accesses of the update
abbrev pub FlagLaw : Type 0
FlagLaw = (d : View) (p : List ℕ) → TellsFlags d p (flags_of (d p))

-- .. and so are the masks
abbrev pub MaskLaw : Type 0
MaskLaw = (d : View) (p : List ℕ) → TellsMasks d p (searched_of (d p)) (modified_of (d p))

-- what the draft wrote at some path the update wrote
abbrev pub WriteLaw : Type 0
WriteLaw = (d : View) (b : Bool) → ((b ≡ true) ↔ Wrote d) → TellsWrites d b

-- the fresh paths of the draft are those of the update
abbrev pub FreshLaw : Type 0
FreshLaw = (d : View) (paths : List (List ℕ)) → AreFresh d paths → TellsFresh d paths

-- Where a draft's pages were written, the block of `/` holds the draft's tree, and what was not written is shared with the base.
abbrev pub FlushLaw : Type 0
FlushLaw =
    (d : View) (placed : List Placed) (old new : Store) (root top : ℕ) (a : Tree) (steps : List Step)
    → StandsFor old root a steps d → IsPlaced d placed → Flushed d placed root old new → AreWhole new → block_of placed [] ≡ Some top
    → Holds new top (tree_after a steps) × SharesRest placed old root new top (tree_after a steps)
