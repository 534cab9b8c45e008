use Rattle.store_changes.proofs.Upgrading.{upgrading_widens, upgrading_widens_part}
use Rattle.store_changes.proofs.upgrading_widens.Goals as goal

pub returns-clause-alone : goal.returns-clause-alone
returns-clause-alone c = upgrading_widens

pub returns-clause-part : goal.returns-clause-part
returns-clause-part c = upgrading_widens_part
