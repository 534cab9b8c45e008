use Rattle.std.proofs.Common.{subst, sym}
use Rattle.session.specs.Calls.{TurnCall}
use Rattle.session.specs.Own.{IsWritingBy}
use Rattle.session.specs.declared.turned.Turned.TheVariants as turned
use Rattle.session.proofs.BlockLaws.{BlockLaws, block_laws}
use Rattle.session.proofs.Torn.{torn_by, unwritten_call}
use Rattle.session.proofs.course.Course.torn.Given as given
use Rattle.session.proofs.course.Course.torn.Goals as goal

laws : (g : given.Over) → g.B.Blocks.tells → BlockLaws g.B.Blocks
laws g = block_laws g.B.Blocks g.met.B.Blocks.clock g.met.B.Blocks.settled_left g.met.B.Blocks.whole g.met.B.Blocks.bytes

pub returns-in-WriteFault : goal.returns-in-WriteFault
returns-in-WriteFault g c = λ before flush top t.
    torn_by g.B.Blocks (laws g) c.args.script.now before c.args.common.now c.args.self.now flush top c.args.fault t c.in-WriteFault.half c.in-WriteFault.is c.doubt.new.common c.requires.ready.line
    c.doubt.ensures

pub returns-in_default : goal.returns-in_default
returns-in_default g c = λ before flush top t.
    subst (λ x. TurnCall g.B.Blocks (IsWritingBy flush) c.args.script.now before c.args.common.now c.args.self.now c.args.self.now (turned.Stopped x)) (sym c.fault_of.ensures)
    (unwritten_call g.B.Blocks (laws g) c.args.script.now before c.args.common.now c.args.self.now flush top c.args.fault t c.in_default.not-WriteFault)
