use Rattle.ground_model.proofs.RollingClears.{top_is_cleared}
use Rattle.ground_model.proofs.RollingLinks.{link_is_set, nobody_sets_links, nothing_is_left}
use Rattle.ground_model.proofs.rolling_laws.links_roll.Goals as goal

pub returns-clause-set : goal.returns-clause-set
returns-clause-set c = link_is_set

pub returns-clause-cleared : goal.returns-clause-cleared
returns-clause-cleared c = top_is_cleared

pub returns-clause-left : goal.returns-clause-left
returns-clause-left c = nothing_is_left

pub returns-clause-nobody : goal.returns-clause-nobody
returns-clause-nobody c = nobody_sets_links
