use Rattle.std.proofs.Common.{arith}
use Rattle.ground_model.proofs.LineTurns.{line_turn_stands}
use Rattle.session.proofs.Picking.{pick_turn}
use Rattle.session.proofs.course.Course.pick.Goals as goal

pub returns : goal.returns
returns g c =
    pick_turn g.B.Blocks c.args.script.now c.args.common.now c.answer.new.common c.args.self.now c.answer.new.self c.args.place c.pick.new.self c.answer.result
    (λ told. line_turn_stands g.B.Blocks (λ s n f always left. g.met.B.Blocks.settled_left s n f told always left))
    g.met.B.Blocks.clock c.requires.ready c.requires.command (omega arith)
    c.pick.ensures.picked c.pick.ensures.same c.answer.ensures.answered c.answer.ensures.line
