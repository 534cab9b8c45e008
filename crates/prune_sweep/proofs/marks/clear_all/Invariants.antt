use Rattle.std.proofs.Common.{◌≡◌, ℕ, ◌<◌}
use Rattle.prune_sweep.specs.declared.mark.Mark.TheVariants.{Unseen}
use Rattle.prune_sweep.specs.Marks.{mark_at}
use Rattle.prune_sweep.proofs.marks.clear_all.Given as goal

abbrev pub invariant-loop-mark : goal.invariant-loop-mark
invariant-loop-mark l = (k : ℕ) → k < l.mark-index → mark_at l.marks k ≡ Unseen
