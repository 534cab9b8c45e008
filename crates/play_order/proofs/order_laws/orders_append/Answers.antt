use Rattle.play_order.proofs.OrderAppends.{order_appends}
use Rattle.play_order.proofs.order_laws.orders_append.Goals as goal

pub returns : goal.returns
returns c = order_appends
