use Rattle.version_chain.specs.Flush.{IsNextBelow}
use Rattle.version_chain.proofs.Slots.{SlotsSoFar}
use Rattle.version_chain.proofs.pages.slots_of.Given as goal

abbrev pub invariant-slots : goal.invariant-slots
invariant-slots g l = SlotsSoFar (g.D.Draft.view l.draft) l.places l.above l.old l.refs l.k × IsNextBelow l.places l.above l.k l.next
