use Rattle.std.proofs.Common.{◌∙◌}
use Rattle.ground_model.proofs.LineTurns.{line_turn_stands}
use Rattle.session.proofs.Abandoning.{abandon_turn}
use Rattle.session.proofs.course.Course.abandon.Goals as goal

pub returns : goal.returns
returns g c =
    abandon_turn g.B.Blocks c.args.script.now c.args.common.now c.note.new.common c.let_go.new.common c.answer.new.common c.args.self.now c.let_go.new.self c.answer.new.self c.answer.result
    (λ told. line_turn_stands g.B.Blocks (λ s n f always left. g.met.B.Blocks.settled_left s n f told always left))
    g.met.B.Blocks.clock c.requires.ready c.requires.command (λ none. c.if-roots-eq0.false (c.roots.ensures.value ∙ none))
    c.let_go.ensures
    c.note.ensures c.answer.ensures.answered c.answer.ensures.line
