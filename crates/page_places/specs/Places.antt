-- Where the pages of a version lie: a tree of pages, each in a block, reached from the block of its root.
use Rattle.std.specs.Prelude.{◌≡◌, ℕ, Bool, List, [], ◌∷◌, length, Option, Some, None, slice_get, nat_eq}
use Rattle.std.specs.Option.{option_and_then}
use Rattle.std.specs.Int.{bit_at}
use Rattle.std.specs.Ordering.{eq_by_cmp}
use Rattle.std.specs.FinMap as map
use Rattle.afs_base.specs.Path.{path_cmp}
use Rattle.tree_model.specs.Trees.{Tree}
use Rattle.page_codec.specs.Values.{PageValue}

-- the page that each block decodes to, where it does
abbrev pub Store : Type 0
Store = ℕ → Option PageValue

-- the two paths are one
abbrev pub same : List ℕ → List ℕ → Bool
same p q = eq_by_cmp path_cmp p q

-- the bit of a slot is set in a mask
abbrev pub has_bit : ℕ → ℕ → Bool
has_bit mask k = nat_eq (bit_at mask k) 1

-- the block that a slot of a page names
abbrev pub slot_block : PageValue → ℕ → Option ℕ
slot_block page s = option_and_then (λ r. r.block) (slice_get page.refs s)

-- the block of the page at a path, walking down from block b
abbrev pub block_at : Store → ℕ → List ℕ → Option ℕ
block_at store b [] = Some b
block_at store b (s ∷ p) = option_and_then (λ below. block_at store below p) (option_and_then (λ page. slot_block page s) (store b))

-- the blocks from the root down hold this tree: a page with the data and the level of its path at each path of the tree, and no other
pub record Holds (store : Store) (root : ℕ) (a : Tree) : Type 0 where
  pub page : (p : List ℕ) (b : ℕ) → block_at store root p ≡ Some b
      → (page : PageValue) × (store b ≡ Some page) × (map.get a p ≡ Some page.bytes) × (page.level ≡ length p)
  pub gone : (p : List ℕ) → block_at store root p ≡ None → map.get a p ≡ None
