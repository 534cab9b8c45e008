use Rattle.play_order.proofs.WholeLines.{within_begins, within_ends, within_goes_on}
use Rattle.play_order.proofs.order_laws.lines_go_on.Goals as goal

pub returns-clause-begins : goal.returns-clause-begins
returns-clause-begins c = within_begins

pub returns-clause-goes_on : goal.returns-clause-goes_on
returns-clause-goes_on c = within_goes_on

pub returns-clause-ends : goal.returns-clause-ends
returns-clause-ends c = within_ends
