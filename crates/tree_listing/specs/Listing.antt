-- The blocks of a version: the store's, over their contents, and those that are reached from the version's own.
use Rattle.std.specs.Prelude.{◌≡◌, ℕ, ◌<◌, List, Option, Some, None, slice_get}
use Rattle.std.specs.Option.{option_and_then}
use Rattle.page_codec.specs.Values.{ReferenceValue}
use Rattle.page_places.specs.Places.{Store, block_at}
use Rattle.store_model.specs.Walk.{Blocks}

-- the blocks of a store, over these contents
abbrev pub blocks_of : {D : Type 0} → (D → ℕ → Option (List ℕ)) → (D → ℕ) → D → Blocks
blocks_of content size store = record { content = content store; count = size store }

-- each block that is reached from block n, going down from page to page, has this property
abbrev pub EachBelow : (ℕ → Type 0) → Store → ℕ → Type 0
EachBelow P store n = (path : List ℕ) (b : ℕ) → block_at store n path ≡ Some b → P b

-- so has each one that is reached through these slots
abbrev pub EachBelowSlots : (ℕ → Type 0) → Store → List ReferenceValue → Type 0
EachBelowSlots P store refs = (slot n : ℕ) → option_and_then (λ r. r.block) (slice_get refs slot) ≡ Some n → EachBelow P store n

-- a read of the block gives content
pub record IsOpen (settled : ℕ → Type 0) (content : ℕ → Option (List ℕ)) (n : ℕ) : Type 0 where
  pub settled_here : settled n
  pub some : content n ≡ None → ⊥

-- the blocks of a version can be read: a read of each gives its content, and it is one of the store's
pub record AreReadable (settled : ℕ → Type 0) (size : ℕ) (store : Store) (root : ℕ) : Type 0 where
  pub settled_each : EachBelow settled store root
  pub low : EachBelow (λ b. b < size) store root
