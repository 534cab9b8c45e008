use Rattle.std.proofs.Common.{drop}
use Rattle.prune_sweep.proofs.SlotSteps.{NamesOn}
use Rattle.prune_sweep.proofs.naming.name_new.Given as goal

abbrev pub invariant-slots : goal.invariant-slots
invariant-slots l = NamesOn l.following l.level l.refs (drop l.reference-index l.refs) l.initial.marks l.marks
