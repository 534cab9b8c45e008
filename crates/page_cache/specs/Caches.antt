-- What contracts say of a cache.
use Rattle.std.specs.Prelude.{ℕ}
use Rattle.pair_store.specs.declared.store.Blocks.{Ghosts}
use Rattle.page_cache.specs.declared.cached.Cached.{Cached}
use Rattle.page_cache.specs.Listing.{Listing}

module _ {B : Type 0} {G : Ghosts B} where
  -- the store within
  abbrev pub inner_of : Cached B G → B
  inner_of c = c.inner

  -- the blocks that are read without it
  abbrev pub list_of : Cached B G → Listing
  list_of c = c.frames

  -- how many operations there were
  abbrev pub operations_of : Cached B G → ℕ
  operations_of c = c.operations
