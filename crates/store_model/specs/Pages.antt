-- The pages of a version, in the order of their paths.
use Rattle.std.specs.Prelude.{ℕ, zero, suc, ◌==◌, true, List, [], ◌∷◌, ◌++◌, length, Option, Some, None, if◌then◌else◌}
use Rattle.page_codec.specs.declared.why.Why.TheVariants.{Level, Reference}
use Rattle.page_codec.specs.Values.{ReferenceValue, PageValue}
use Rattle.page_codec.specs.Causes.{page_of}
use Rattle.store_model.specs.Walk.{Blocks, Walk, ◌>>=◌, ◌>>◌, done, refuse, check, decoded, place}
use Rattle.store_model.specs.Laid.{Node, shared_from, lies_at}

-- a new place that is a page of this level
unfoldable pub page_at : Blocks → ℕ → ℕ → ℕ → Walk PageValue
page_at blocks namer block level = do
  bytes ← place blocks namer block
  page ← decoded block (page_of bytes)
  check (page.level == level) block Level
  done page

-- the node of a page of a version's own
abbrev pub own_node : List ℕ → ReferenceValue → ℕ → PageValue → Node
own_node path reference block page =
    record { path = path; block = block; flags = reference.flags; modified = page.modified; bytes = page.bytes; is_own = true }

-- what walks over the slots of a page: given their pages' level is not reached yet, the block of the page, its path, and its slots
abbrev pub Below : Type 0
Below = ℕ → List ℕ → List ReferenceValue → Walk (List Node)

-- a page of the version's own, and all below it
unfoldable pub own_from : Blocks → Below → ℕ → List ℕ → ReferenceValue → ℕ → Walk (List Node)
own_from blocks below namer path reference block = do
  page ← page_at blocks namer block (length path)
  others ← below block path page.refs
  done (own_node path reference block page ∷ others)

-- What a slot names: in the first version of a chain a page of its own. In a later one, a page of its own where the slot says that it
-- was copied, and else the page that the version before has at the same path, with all below it.
unfoldable pub named_from : Blocks → Below → Option (List Node) → ℕ → List ℕ → ReferenceValue → ℕ → Walk (List Node)
named_from blocks below None namer path reference block = own_from blocks below namer path reference block
named_from blocks below (Some before) namer path reference block =
    if reference.flags.copied
    then own_from blocks below namer path reference block
    else if lies_at path block before
    then done (shared_from path before)
    else refuse namer Reference

-- a slot, empty or not
unfoldable pub slot_from : Blocks → Below → Option (List Node) → ℕ → List ℕ → ReferenceValue → Option ℕ → Walk (List Node)
slot_from blocks below before namer path reference None = done []
slot_from blocks below before namer path reference (Some block) = named_from blocks below before namer path reference block

-- the slots from this one on, each with all below it before the next
unfoldable pub slots_from : Blocks → Below → Option (List Node) → ℕ → List ℕ → ℕ → List ReferenceValue → Walk (List Node)
slots_from blocks below before namer path slot [] = done []
slots_from blocks below before namer path slot (reference ∷ others) = do
  here ← slot_from blocks below before namer (path ++ slot ∷ []) reference reference.block
  rest ← slots_from blocks below before namer path (suc slot) others
  done (here ++ rest)

-- All pages below one that is in this block at this path, so many levels deep at the most. A page of level 7 has no slots in use.
unfoldable pub pages_below : Blocks → Option (List Node) → ℕ → Below
pages_below blocks before zero namer path refs = done []
pages_below blocks before (suc depth) namer path refs = slots_from blocks (pages_below blocks before depth) before namer path 0 refs
