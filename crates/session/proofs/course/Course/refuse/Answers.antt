use Rattle.ground_model.proofs.LineTurns.{line_turn_stands}
use Rattle.session.proofs.RefusedLines.{refused_turn}
use Rattle.session.proofs.course.Course.refuse.Goals as goal

pub returns : goal.returns
returns g c =
    refused_turn g.B.Blocks c.args.script.now c.args.common.now c.answer.new.common c.args.self.now c.answer.new.self c.args.why c.answer.result
    (λ told. line_turn_stands g.B.Blocks (λ s n f always left. g.met.B.Blocks.settled_left s n f told always left))
    g.met.B.Blocks.clock c.requires.ready c.requires.cause c.answer.ensures.answered c.answer.ensures.line
