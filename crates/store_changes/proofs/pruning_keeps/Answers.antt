use Rattle.store_changes.proofs.Pruning.{pruning_keeps}
use Rattle.store_changes.proofs.Keeping.{kept_are_kept}
use Rattle.store_changes.proofs.pruning_keeps.Goals as goal

pub returns-clause-keeps : goal.returns-clause-keeps
returns-clause-keeps c = pruning_keeps

pub returns-clause-kept : goal.returns-clause-kept
returns-clause-kept c = kept_are_kept
