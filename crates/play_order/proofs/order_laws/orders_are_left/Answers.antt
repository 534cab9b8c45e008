use Rattle.play_order.proofs.LeftLines.{end_is_reached, end_takes_line, start_leaves_all, word_is_passed, word_takes_line}
use Rattle.play_order.proofs.order_laws.orders_are_left.Goals as goal

pub returns-clause-starts : goal.returns-clause-starts
returns-clause-starts c = start_leaves_all

pub returns-clause-takes : goal.returns-clause-takes
returns-clause-takes c = word_takes_line

pub returns-clause-passes : goal.returns-clause-passes
returns-clause-passes c = word_is_passed

pub returns-clause-behind : goal.returns-clause-behind
returns-clause-behind c = end_takes_line

pub returns-clause-reached : goal.returns-clause-reached
returns-clause-reached c = end_is_reached
