use Rattle.store_check.proofs.TopLists.{TopsSoFar}
use Rattle.store_check.proofs.tops.tops_of.Given as goal

abbrev pub invariant-objects : goal.invariant-objects
invariant-objects l = TopsSoFar l.chains l.i l.tops.items
