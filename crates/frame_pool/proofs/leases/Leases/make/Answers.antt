use Rattle.std.proofs.Common.{◌≡◌, ◌-◌, ◌+◌, length, ap, ◌∙◌, arith}
use Rattle.frame_pool.specs.Leasing.{unused_run}
use Rattle.frame_pool.proofs.Blank.{unused_more}
use Rattle.frame_pool.proofs.leases.Leases.make.Goals as goal

pub loop-k-preserved : goal.loop-k-preserved
loop-k-preserved g c =
    let number : c.args.clients - 1 - c.loop-k.k ≡ c.args.clients - (length c.loop-k.rest.items + 1) = omega (arith, c.loop-k.invariant.0) in (
      omega (arith, c.in_ok-push.ensures.len, c.push.new.self.ok.0, c.loop-k.rest.ok.0, c.loop-k.invariant.0),
      unused_more _ _ c.args.clients c.loop-k.rest.items _ (c.in_ok-make.ensures ∙ ap unused_run number) c.in_ok-with_capacity.ensures.items c.loop-k.invariant.1 _ c.in_ok-push.ensures.items,
    )
