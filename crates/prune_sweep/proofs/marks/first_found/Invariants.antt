use Rattle.std.proofs.Common.{◌≡◌, drop}
use Rattle.prune_sweep.specs.Marks.{found_from}
use Rattle.prune_sweep.proofs.marks.first_found.Given as goal

abbrev pub invariant-search : goal.invariant-search
invariant-search l = found_from l.from (drop l.from l.marks) ≡ found_from l.at (drop l.at l.marks)
