use Rattle.play_order.proofs.ClientEntries.{answers_are_counted, others_are_left, unanswered_is_within, within_is_unanswered}
use Rattle.play_order.proofs.order_laws.entries_are_counted.Goals as goal

pub returns-clause-counted : goal.returns-clause-counted
returns-clause-counted c = answers_are_counted

pub returns-clause-within : goal.returns-clause-within
returns-clause-within c = within_is_unanswered

pub returns-clause-unanswered : goal.returns-clause-unanswered
returns-clause-unanswered c = unanswered_is_within

pub returns-clause-others : goal.returns-clause-others
returns-clause-others c = others_are_left
