use Rattle.tree_listing.proofs.Faults.{first_fault_is_one}
use Rattle.tree_listing.proofs.laws.first_fault_law.Goals as goal

pub returns : goal.returns
returns c = first_fault_is_one
