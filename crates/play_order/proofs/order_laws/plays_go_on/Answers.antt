use Rattle.play_order.proofs.Plays.{play_begins, play_passes_word, play_takes_end, play_takes_word}
use Rattle.play_order.proofs.order_laws.plays_go_on.Goals as goal

pub returns-clause-begins : goal.returns-clause-begins
returns-clause-begins c = play_begins

pub returns-clause-takes : goal.returns-clause-takes
returns-clause-takes c = play_takes_word

pub returns-clause-passes : goal.returns-clause-passes
returns-clause-passes c = play_passes_word

pub returns-clause-behind : goal.returns-clause-behind
returns-clause-behind c = play_takes_end
