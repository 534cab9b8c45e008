use Rattle.play_order.proofs.WholeLines.{one_is_in_order, one_is_more, one_is_whole}
use Rattle.play_order.proofs.order_laws.lines_are_whole.Goals as goal

pub returns-clause-whole : goal.returns-clause-whole
returns-clause-whole c = one_is_whole

pub returns-clause-in_order : goal.returns-clause-in_order
returns-clause-in_order c = one_is_in_order

pub returns-clause-more : goal.returns-clause-more
returns-clause-more c = one_is_more
