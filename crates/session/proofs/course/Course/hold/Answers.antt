use Rattle.std.proofs.Common.{refl}
use Rattle.session.proofs.BlockLaws.{BlockLaws, block_laws}
use Rattle.session.proofs.Holding.{holding_call}
use Rattle.session.proofs.course.Course.hold.Given as given
use Rattle.session.proofs.course.Course.hold.Goals as goal

laws : (g : given.Over) → g.B.Blocks.tells → BlockLaws g.B.Blocks
laws g = block_laws g.B.Blocks g.met.B.Blocks.clock g.met.B.Blocks.settled_left g.met.B.Blocks.whole g.met.B.Blocks.bytes

pub returns-clause-taken : goal.returns-clause-taken
returns-clause-taken g c =
    let done = c.in_ok-hold.ensures in
    holding_call g.B.Blocks (laws g) c.args.script.now c.args.common.now c.note.new.common c.args.self.now c.args.blocks c.hold.new.self
    c.requires.ready c.requires.none c.requires.some c.requires.needed c.note.ensures done.ok done.held done.others (done.room.0 refl)
