use Rattle.prune_sweep.proofs.FreedThen.{pruning_frees_the_found, destroying_frees_the_found}
use Rattle.prune_sweep.proofs.laws.what_is_found_becomes_free.Goals as goal

pub returns-clause-pruned : goal.returns-clause-pruned
returns-clause-pruned c = pruning_frees_the_found

pub returns-clause-destroyed : goal.returns-clause-destroyed
returns-clause-destroyed c = destroying_frees_the_found
