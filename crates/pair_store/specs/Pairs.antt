-- What contracts say of a pair.
use Rattle.std.specs.Prelude.{ℕ}
use Rattle.pair_store.specs.declared.on_halves.Pair.{Pair}

module _ {V : Type 0} where
  -- its two halves
  abbrev pub drives_of : Pair V → V
  drives_of p = p.drives

  -- how many operations there were
  abbrev pub operations_of : Pair V → ℕ
  operations_of p = p.operations
