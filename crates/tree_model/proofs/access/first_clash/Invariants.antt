use Rattle.std.proofs.Common.{take}
use Rattle.std.specs.FinSet as set
use Rattle.tree_model.specs.Accesses.{IsClash}
use Rattle.tree_model.proofs.access.first_clash.Given as goal

abbrev pub invariant-loop-place : goal.invariant-loop-place
invariant-loop-place l = IsClash (set.from_list (take l.place-index l.place-items)) (set.from_list l.visible-inside.writes.items) l.least
