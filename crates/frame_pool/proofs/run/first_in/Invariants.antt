use Rattle.frame_pool.specs.Leasing.{AreOut}
use Rattle.frame_pool.proofs.run.first_in.Given as goal

abbrev pub invariant-search : goal.invariant-search
invariant-search l = AreOut l.at l.taken
