use Rattle.std.proofs.Common.{drop}
use Rattle.prune_sweep.proofs.SlotSteps.{SharesOn}
use Rattle.prune_sweep.proofs.naming.share_all.Given as goal

abbrev pub invariant-slots : goal.invariant-slots
invariant-slots l = SharesOn l.following l.level l.refs (drop l.reference-index l.refs) l.initial.marks l.marks
