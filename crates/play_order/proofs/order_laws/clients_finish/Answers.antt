use Rattle.play_order.proofs.PlayEnds.{finishing_begins, finishing_goes_on, full_is_finished}
use Rattle.play_order.proofs.order_laws.clients_finish.Goals as goal

pub returns-clause-full : goal.returns-clause-full
returns-clause-full c = full_is_finished

pub returns-clause-begins : goal.returns-clause-begins
returns-clause-begins c = finishing_begins

pub returns-clause-goes_on : goal.returns-clause-goes_on
returns-clause-goes_on c = finishing_goes_on
