use Rattle.ground_model.proofs.Ahead.{base_low}
use Rattle.ground_model.proofs.Naming.{commit_names, unlocked_is_unlinked}
use Rattle.ground_model.proofs.link_laws.commits_name_versions.Goals as goal

pub returns-clause-free : goal.returns-clause-free
returns-clause-free c = unlocked_is_unlinked

pub returns-clause-low : goal.returns-clause-low
returns-clause-low c = base_low

pub returns-clause-names : goal.returns-clause-names
returns-clause-names c = commit_names
