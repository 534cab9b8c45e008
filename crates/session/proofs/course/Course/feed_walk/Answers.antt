use Rattle.session.proofs.BlockLaws.{BlockLaws, block_laws}
use Rattle.session.proofs.Feeding.{feeds_call, page_failed}
use Rattle.session.proofs.course.Course.feed_walk.Given as given
use Rattle.session.proofs.course.Course.feed_walk.Goals as goal

laws : (g : given.Over) → g.B.Blocks.tells → BlockLaws g.B.Blocks
laws g = block_laws g.B.Blocks g.met.B.Blocks.clock g.met.B.Blocks.settled_left g.met.B.Blocks.whole g.met.B.Blocks.bytes

pub returns-in-Ok : goal.returns-in-Ok
returns-in-Ok g c = λ script ready.
    feeds_call g.B.Blocks script c.args.common.now c.read_page.new.self c.args.self.now c.args.walk c.args.path.now c.args.block c.len.result c.read_page.result
    (laws g) ready c.read_page.ensures.read c.requires.next c.len.ensures.value c.in-Ok.page c.in-Ok.is c.take_page.new.self c.take_page.result c.take_page.ensures c.requires.draft

pub returns-in-Err : goal.returns-in-Err
returns-in-Err g c = λ script ready.
    page_failed g.B.Blocks script c.args.common.now c.read_page.new.self c.args.self.now c.args.walk c.args.path.now c.args.block c.len.result c.read_page.result
    (laws g) ready c.read_page.ensures.read c.requires.next c.len.ensures.value c.in-Err.fault c.in-Err.is
