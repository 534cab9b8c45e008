use Rattle.ground_model.proofs.RollingOthers.{commit_leaves_links, same_store_leaves_links}
use Rattle.ground_model.proofs.rolling_laws.links_are_left.Goals as goal

pub returns-clause-same : goal.returns-clause-same
returns-clause-same c = same_store_leaves_links

pub returns-clause-commit : goal.returns-clause-commit
returns-clause-commit c = commit_leaves_links
