use Rattle.play_order.proofs.PlayEnds.{play_is_done}
use Rattle.play_order.proofs.order_laws.plays_end.Goals as goal

pub returns : goal.returns
returns c = play_is_done
