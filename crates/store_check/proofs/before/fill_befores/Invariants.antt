use Rattle.std.proofs.Common.{◌≡◌, take, length}
use Rattle.store_check.specs.Before.{befores_of}
use Rattle.store_check.proofs.before.fill_befores.Given as goal

abbrev pub invariant-slots : goal.invariant-slots
invariant-slots l = record {
  size : length l.befores ≡ length l.fn.befores;
  front : take l.k l.befores ≡ befores_of (take l.k l.refs);
}
