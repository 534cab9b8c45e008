use Rattle.session.specs.Opening.{AreGivenBack}
use Rattle.session.proofs.opening.give_all_back.Given as goal

abbrev pub invariant-loop-place : goal.invariant-loop-place
invariant-loop-place l = AreGivenBack l.place l.initial.map l.map
