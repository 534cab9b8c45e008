use Rattle.std.proofs.Common.{rules}
use Rattle.page_cache.proofs.Changed.{begins}
use Rattle.page_cache.proofs.frames.Frames.make.Goals as goal

pub invariant_of-result : goal.invariant_of-result
invariant_of-result c = let e = c.in_ok-order.ensures in
    (begins c.in_ok-order.order c.args.blocks c.args.pages e.0 e.1 e.2 c.requires.some c.in_ok-places.places.items (c.in_ok-places.ensures.items_if_clones_equal (search rules))).laid
