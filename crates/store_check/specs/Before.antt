-- What the version before has at a path, and which slots of a page name a page of its version's own.
use Rattle.std.specs.Prelude.{◌≡◌, ◌==◌, ℕ, ◌<◌, ◌++◌, Bool, true, false, ◌||◌, List, [], ◌∷◌, length, map, Option, Some, None, Result, Ok, Err, slice_get, if◌then◌else◌}
use Rattle.std.specs.List.{AllByRecursion}
use Rattle.page_codec.specs.declared.why.Why.TheVariants.{Reference}
use Rattle.page_codec.specs.Values.{PageValue, ReferenceValue}
use Rattle.page_places.specs.Places.{Store, block_at}
use Rattle.store_model.specs.Laid.{Node, block_in}
use Rattle.store_check.specs.declared.before.Before.{Before}
use Rattle.store_check.specs.declared.before.Before.TheVariants.{NoVersion, NoPage, Page}
use Rattle.store_check.specs.declared.refused.WalkRefused.{WalkRefused}
use Rattle.store_check.specs.declared.refused.WalkRefused.TheVariants.{BadStore}

-- a page in this block, or none
abbrev pub page_before : Option ℕ → Before
page_before None = NoPage
page_before (Some block) = Page block

-- what these pages, of the version before where there is one, have at a path
abbrev pub before_at : Option (List Node) → List ℕ → Before
before_at None path = NoVersion
before_at (Some nodes) path = page_before (block_in path nodes)

-- these are what the version before has at each slot of the page at a path
abbrev pub AreBefore : Option (List Node) → List ℕ → List Before → Type 0
AreBefore nodes path befores = (k : ℕ) → k < 16 → slice_get befores k ≡ Some (before_at nodes (path ++ k ∷ []))

-- what the version before has at the slots of its page
abbrev pub befores_of : List ReferenceValue → List Before
befores_of refs = map (λ r. page_before r.block) refs

-- the block of a page is one of the store's, and holds its data, and a page of the level of its path
pub record IsNodeHeld (store : Store) (count : ℕ) (node : Node) : Type 0 where
  pub page : PageValue
  pub is : store node.block ≡ Some page
  pub bytes : page.bytes ≡ node.bytes
  pub level : page.level ≡ length node.path
  pub low : node.block < count

-- the pages of a version are those that a walk down from its block meets
pub record PagesLie (store : Store) (count root : ℕ) (nodes : List Node) : Type 0 where
  pub lie : (path : List ℕ) → block_in path nodes ≡ block_at store root path
  pub held : AllByRecursion (IsNodeHeld store count) nodes

-- so do the pages of the version before, where there is one
abbrev pub BeforeLies : Store → ℕ → Option (List Node) → Type 0
BeforeLies store count None = Unit {0}
BeforeLies store count (Some nodes) = (root : ℕ) × PagesLie store count root nodes

abbrev pub is_first : Before → Bool
is_first NoVersion = true
is_first NoPage = false
is_first (Page block) = false

abbrev pub is_page : ℕ → Before → Bool
is_page block NoVersion = false
is_page block NoPage = false
is_page block (Page other) = block == other

-- The block of a page of the version's own that a slot of a page names, if it names one. In the first version every page is; in a
-- later one a page that was copied, and every other is the page of the version before, or refused.
abbrev pub own_block : ℕ → ReferenceValue → Before → Option ℕ → Result (Option ℕ) WalkRefused
own_block namer reference before None = Ok None
own_block namer reference before (Some block) =
    if is_first before || reference.flags.copied
    then Ok (Some block)
    else (if is_page block before then Ok None else Err (BadStore namer Reference))
