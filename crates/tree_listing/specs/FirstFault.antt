-- The first fault of a version: of all its pages that are not lawful the one at the least path, and why it is not lawful.
use Rattle.std.specs.Prelude.{◌≡◌, ℕ, ◌<◌, ◌-◌, ◌==◌, nat_lt, List, [], ◌∷◌, length, take, Option, Some, None, Result, Ok, Err, if◌then◌else◌}
use Rattle.std.specs.declared.cmp.Ordering.TheVariants.{Less}
use Rattle.afs_base.specs.Path.{path_cmp}
use Rattle.tree_model.specs.Trees.{Tree}
use Rattle.page_codec.specs.declared.why.Why.{Why}
use Rattle.page_codec.specs.declared.why.Why.TheVariants.{Closed, Reference, Level}
use Rattle.page_codec.specs.Values.{PageValue}
use Rattle.page_codec.specs.Causes.{page_of, version_of}
use Rattle.page_places.specs.Places.{Holds, block_at}
use Rattle.store_model.specs.Walk.{Blocks, Refused}
use Rattle.store_model.specs.Laws.{pages_of}
use Rattle.tree_listing.specs.Listing.{EachBelow}

-- ---- one block

-- one step after another
abbrev pub and_then : {X Y E : Type 0} → Result X E → (X → Result Y E) → Result Y E
and_then (Ok x) next = next x
and_then (Err e) next = Err e

-- what block n was read as, or that it is not lawful
abbrev pub of_block : {X : Type 0} → ℕ → Result X Why → Result X Refused
of_block n (Ok x) = Ok x
of_block n (Err why) = Err (record { block = n; why = why })

-- what a block holds; it is closed where it holds nothing
abbrev pub held_in : Option (List ℕ) → Result (List ℕ) Why
held_in None = Err Closed
held_in (Some bytes) = Ok bytes

-- Block n, which the page in `namer` names. A number beyond the store's blocks is the fault of the page that names it.
unfoldable pub block_named : Blocks → ℕ → ℕ → Result (List ℕ) Refused
block_named blocks namer n =
    if nat_lt n blocks.count then of_block n (held_in (blocks.content n)) else Err (record { block = namer; why = Reference })

-- a page of this level
abbrev pub with_level : ℕ → PageValue → Result PageValue Why
with_level level page = if page.level == level then Ok page else Err Level

-- the page below `/` in block n, which the page in `namer` names
unfoldable pub page_named : Blocks → ℕ → ℕ → ℕ → Result PageValue Refused
page_named blocks namer n level = and_then (block_named blocks namer n) (λ bytes. of_block n (and_then (page_of bytes) (with_level level)))

-- the page `/` in the version page in block n
unfoldable pub root_in : Blocks → ℕ → Result PageValue Refused
root_in blocks n = and_then (block_named blocks n n) (λ bytes. of_block n (and_then (version_of bytes) (λ version. Ok version.page)))

-- ---- the pages of a version

-- the path of the page above, which lacks the last slot; `/` has none above it, and is given its own
abbrev pub above : List ℕ → List ℕ
above path = take (length path - 1) path

-- block n as the page at a path: `/` is the page in a version page, and below it a page has the level of its path
abbrev pub page_as : Blocks → List ℕ → ℕ → ℕ → Result PageValue Refused
page_as blocks [] namer n = root_in blocks n
page_as blocks (s ∷ path) namer n = page_named blocks namer n (length (s ∷ path))

-- The page at a path is not lawful, and this is why. Its block is the one that the page above names, or the version's own.
pub record HasFault (blocks : Blocks) (root : ℕ) (path : List ℕ) (cause : Refused) : Type 0 where
  pub namer : ℕ
  pub block : ℕ
  pub named_in : block_at (pages_of blocks.content) root (above path) ≡ Some namer
  pub lies_in : block_at (pages_of blocks.content) root path ≡ Some block
  pub refused : page_as blocks path namer block ≡ Err cause

-- The first fault is the one at the least path. `/` is least, a page comes before those below it, and slots ascend: so all pages above are lawful.
pub record IsFirstFault (blocks : Blocks) (root : ℕ) (cause : Refused) : Type 0 where
  pub path : List ℕ
  pub fault : HasFault blocks root path cause
  pub least : (earlier : List ℕ) (other : Refused) → path_cmp earlier path ≡ Less → HasFault blocks root earlier other → ⊥

-- A version has one first fault at the most.
abbrev pub FirstFaultIsOne : Type 0
FirstFaultIsOne = (blocks : Blocks) (root : ℕ) (a b : Refused) → IsFirstFault blocks root a → IsFirstFault blocks root b → a ≡ b

-- Where the blocks hold a tree, and are the store's, no page is at fault.
abbrev pub HeldHasNoFault : Type 0
HeldHasNoFault =
    (blocks : Blocks) (root : ℕ) (tree : Tree) → Holds (pages_of blocks.content) root tree → EachBelow (λ b. b < blocks.count) (pages_of blocks.content) root
    → (path : List ℕ) (cause : Refused) → HasFault blocks root path cause → ⊥
