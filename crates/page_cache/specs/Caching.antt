-- A cache, and its list after each call.
use Rattle.std.specs.Prelude.{ℕ, List, Result, Ok, Err}
use Rattle.pair_store.specs.declared.fault.PairFault.{PairFault}
use Rattle.pair_store.specs.declared.outcome.Tas.{Tas}
use Rattle.pair_store.specs.declared.outcome.Tas.TheVariants.{Set, Taken}
use Rattle.page_cache.specs.Listing.{Listing, put_front, take_out}

-- a read that answers Ok puts the block in front, listed or not
abbrev pub after_read : ℕ → List ℕ → Result (Unit {0}) PairFault → Listing → Listing
after_read n body (Ok u) l = put_front n body l
after_read n body (Err fault) l = l

-- so does a write; one that fails takes the block out
abbrev pub after_write : ℕ → List ℕ → Result (Unit {0}) PairFault → Listing → Listing
after_write n body (Ok u) l = put_front n body l
after_write n body (Err fault) l = take_out n l

-- a test-and-set takes the block out, but where it found another block
abbrev pub after_test : ℕ → Result Tas PairFault → Listing → Listing
after_test n (Ok Set) l = take_out n l
after_test n (Ok (Taken by)) l = l
after_test n (Err fault) l = take_out n l
