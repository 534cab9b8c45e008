use Rattle.session.proofs.BlockLaws.{BlockLaws, block_laws}
use Rattle.session.proofs.NextVersions.{next_failed, open_call}
use Rattle.session.proofs.course.Course.open_next.Given as given
use Rattle.session.proofs.course.Course.open_next.Goals as goal

laws : (g : given.Over) → g.B.Blocks.tells → BlockLaws g.B.Blocks
laws g = block_laws g.B.Blocks g.met.B.Blocks.clock g.met.B.Blocks.settled_left g.met.B.Blocks.whole g.met.B.Blocks.bytes

pub returns-in-Ok : goal.returns-in-Ok
returns-in-Ok g c = λ script ready.
    open_call g.B.Blocks script c.args.common.now c.read_version.new.self c.args.self.now c.args.next c.read_version.result (laws g) ready c.read_version.ensures
    c.in-Ok.version c.in-Ok.is c.begin_walk.new.self c.begin_walk.result c.begin_walk.ensures

pub returns-in-Err : goal.returns-in-Err
returns-in-Err g c = λ script ready.
    next_failed g.B.Blocks script c.args.common.now c.read_version.new.self c.args.self.now c.args.next c.read_version.result (laws g) ready c.read_version.ensures c.in-Err.fault c.in-Err.is
