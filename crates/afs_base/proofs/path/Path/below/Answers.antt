use Rattle.std.proofs.Common.{◌<◌, ◌≡◌, ap, length, nat_lt, true, arith, rules}
use Rattle.afs_base.specs.FilledBack.{length-used}
use Rattle.afs_base.proofs.FilledLemmas.{filled_more}
use Rattle.afs_base.proofs.PathLemmas.{are_slots-set}
use Rattle.afs_base.proofs.path.Path.below.Goals as goal

pub invariant_of-below : goal.invariant_of-below
invariant_of-below c =
    let used = length-used 7 c.self.inside.len c.self.inside.slots c.self.invariant.0 in
    let room : c.self.inside.len < 7 = omega (arith, used, ap length c.self.view_is, c.requires) in
    let below : c.args.slot < 16 = omega arith in
    let low : nat_lt c.args.slot 16 ≡ true = search (rules, below) in (
      filled_more 7 c.self.inside.len c.self.inside.slots c.args.slot c.self.invariant.0 room,
      are_slots-set c.self.inside.slots c.self.inside.len c.args.slot c.self.invariant.1 low,
    )
