use Rattle.play_order.proofs.ClientEntries.{due_appends, none_are_of_client, of_client_appends}
use Rattle.play_order.proofs.order_laws.entries_append.Goals as goal

pub returns-clause-due : goal.returns-clause-due
returns-clause-due c = due_appends

pub returns-clause-none : goal.returns-clause-none
returns-clause-none c = none_are_of_client

pub returns-clause-appends : goal.returns-clause-appends
returns-clause-appends c = of_client_appends
