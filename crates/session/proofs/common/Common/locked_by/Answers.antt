use Rattle.session.proofs.OtherLocks.{other_locks}
use Rattle.session.proofs.common.Common.locked_by.Goals as goal

pub returns : goal.returns
returns g c = other_locks c.args.client c.args.object c.as_slice.result.now c.args.self.now.locks c.other_on.result c.as_slice.ensures c.other_on.ensures
