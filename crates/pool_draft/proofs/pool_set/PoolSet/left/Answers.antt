use Rattle.std.proofs.Common.{arith}
use Rattle.pool_draft.proofs.pool_set.PoolSet.left.Goals as goal

pub returns-clause-some : goal.returns-clause-some
returns-clause-some c =
    let s = c.args.self.now in
    omega (arith, c.left.ensures, s.drafts.room, s.drafts.frames, s.drafts.within, s.most, s.few)
