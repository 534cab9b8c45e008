use Rattle.session.proofs.Committed.{committed_by}
use Rattle.std.proofs.Common.{subst}
use Rattle.session.specs.Links.{TriesToLink}
use Rattle.session.proofs.BlockLaws.{BlockLaws, block_laws}
use Rattle.session.proofs.Overtaken.{overtaken_by}
use Rattle.session.proofs.course.Course.after_test.Given as given
use Rattle.session.proofs.course.Course.after_test.Goals as goal

laws : (g : given.Over) → g.B.Blocks.tells → BlockLaws g.B.Blocks
laws g = block_laws g.B.Blocks g.met.B.Blocks.clock g.met.B.Blocks.settled_left g.met.B.Blocks.whole g.met.B.Blocks.bytes

pub returns-in-Set : goal.returns-in-Set
returns-in-Set g c = λ before flush t.
    committed_by g.B.Blocks (laws g) c.args.script.now before c.args.common.now c.finish.new.common c.args.self.now c.finish.new.self flush c.args.top c.finish.result c.args.tested t c.in-Ok.outcome
    c.in-Ok.is c.in-Set.is c.finish.ensures

pub returns-in-Taken : goal.returns-in-Taken
returns-in-Taken g c = λ before flush t.
    overtaken_by g.B.Blocks (laws g) c.args.script.now before c.args.common.now c.args.self.now c.name.new.self flush c.args.top c.in-Taken.by c.name.result c.args.tested t c.in-Ok.outcome c.in-Ok.is
    c.in-Taken.is c.name.ensures.named c.name.ensures.again

pub returns-in-Err : goal.returns-in-Err
returns-in-Err g c = λ before flush t.
    c.torn.ensures before flush c.args.top (subst (λ x. TriesToLink g.B.Blocks c.args.script.now before c.args.common.now c.args.self.now flush c.args.top x) c.in-Err.is t)
