use Rattle.std.proofs.Common.{◌≡◌, ◌≤◌, ◌<◌, ◌-◌, ℕ}
use Rattle.drives.specs.Changes.{IsAtRest, halves_seen}
use Rattle.pair_store.specs.Content.{IsSettled}
use Rattle.pair_store.specs.contracts.on_halves.PairBlocks.TheImpl.{ghosts}
use Rattle.recovery.specs.Mended.{IsWithin, OnlyMended}
use Rattle.recovery.proofs.mending.mend_range.Given as goal

abbrev pub invariant-runs : goal.invariant-runs
invariant-runs g l =
    let v = g.V.Drives in
    record {
      low : l.fn.first ≤ l.n;
      high : l.n ≤ l.fn.end;
      mended : OnlyMended (ghosts g.row.V v g.V.Drives-dict) (IsWithin l.fn.first l.fn.end) l.fn.pair l.pair;
      rest : v.tells → IsAtRest v.seen v.moment v.may_leave l.fn.pair.drives → IsAtRest v.seen v.moment v.may_leave l.pair.drives;
      kept : v.tells → (k : ℕ) → IsSettled k (halves_seen v.seen l.fn.pair.drives) → IsSettled k (halves_seen v.seen l.pair.drives);
      settles : v.tells → (k : ℕ) → l.fn.first ≤ k → k < l.n → IsSettled k (halves_seen v.seen l.pair.drives);
      uncounted : l.pair.operations ≡ l.fn.pair.operations;
    }

abbrev pub decreases-runs : goal.decreases-runs
decreases-runs g l = l.end - l.n
