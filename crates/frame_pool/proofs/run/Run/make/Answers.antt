use Rattle.std.proofs.Common.{◌*◌, ap}
use Rattle.frame_pool.specs.Leasing.{leased}
use Rattle.frame_pool.proofs.run.Run.make.Goals as goal

pub returns : goal.returns
returns c = ap (leased (1024 * c.args.number)) (c.in_ok-taken.ensures.items_if_clones_equal (λ y e. e))
