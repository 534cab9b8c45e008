use Rattle.std.proofs.Common.{◌≡◌, ℕ, ◌<◌, ◌≤◌, false}
use Rattle.prune_sweep.specs.Marks.{mark_at, is_open}
use Rattle.prune_sweep.proofs.marks.first_open.Given as goal

abbrev pub invariant-search : goal.invariant-search
invariant-search l = (k : ℕ) → l.from ≤ k → k < l.at → is_open (mark_at l.marks k) ≡ false
