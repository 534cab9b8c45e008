use Rattle.store_changes.proofs.Keeping.{commits_keep_versions}
use Rattle.store_changes.proofs.commits_keep_versions.Goals as goal

pub returns : goal.returns
returns c = commits_keep_versions
