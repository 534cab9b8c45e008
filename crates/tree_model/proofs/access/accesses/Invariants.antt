use Rattle.std.proofs.Common.{take}
use Rattle.tree_model.proofs.Gathering.{Gathers}
use Rattle.tree_model.proofs.access.accesses.Given as goal

abbrev pub invariant-loop-step : goal.invariant-loop-step
invariant-loop-step l = Gathers l.base (take l.step-index l.steps) l.tree l.reads.items l.writes.items
