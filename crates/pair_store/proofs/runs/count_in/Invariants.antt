use Rattle.std.proofs.Common.{ℕ, ◌<◌}
use Rattle.pair_store.specs.Content.{IsSettled}
use Rattle.pair_store.proofs.runs.count_in.Given as goal

abbrev pub invariant-blocks-2 : goal.invariant-blocks-2
invariant-blocks-2 l = record { settled : (k : ℕ) → k < l.n → IsSettled k (record { a = l.fn.a; b = l.fn.b }) }
