use Rattle.tree_listing.proofs.Faults.{held_has_no_fault}
use Rattle.tree_listing.proofs.laws.held_law.Goals as goal

pub returns : goal.returns
returns c = held_has_no_fault
