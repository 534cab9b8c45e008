use Rattle.tree_model.proofs.Law.{law}
use Rattle.tree_model.proofs.merge.merge_law.Goals as goal

pub returns : goal.returns
returns c = law
