use Rattle.std.proofs.Common.{length}
use Rattle.tree_model.proofs.places.+insert_way.Given as goal

abbrev pub decreases-insert_way : goal.decreases-insert_way
decreases-insert_way l = length l.at.now
