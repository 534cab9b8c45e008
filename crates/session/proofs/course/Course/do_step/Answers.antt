use Rattle.std.proofs.Common.{arith}
use Rattle.page_codec.specs.declared.why.Why.TheVariants.{Level}
use Rattle.ground_model.proofs.LineTurns.{line_turn_stands}
use Rattle.session.specs.Own.{IsAtRest}
use Rattle.session.proofs.Never.{never_call}
use Rattle.session.proofs.Drafting.{on_picked}
use Rattle.session.proofs.Stepping.{is_stepped, make_is_lost, step_turn}
use Rattle.session.proofs.course.Course.do_step.Goals as goal

pub returns-then-is_make : goal.returns-then-is_make
returns-then-is_make g c =
    never_call g.B.Blocks IsAtRest c.args.script.now c.args.common.now c.args.self.now c.root-block.result Level c.requires.ready
    (λ told. make_is_lost g.B.Blocks c.args.script.now c.args.common.now c.args.self.now c.args.step.now c.requires.command c.requires.draft (omega (arith, c.fed.ensures.value)) (c.is_make.ensures.short c.if-is_make.true))

pub returns : goal.returns
returns g c =
    let s = c.args.self.now in
    let did = c.in-Ok.ensures in
    step_turn g.B.Blocks c.args.script.now c.args.common.now c.answer.new.common s c.answer.new.self c.args.step.now c.step.new.self c.in-Ok.reply c.answer.result
    (λ told. line_turn_stands g.B.Blocks (λ s n f always left. g.met.B.Blocks.settled_left s n f told always left))
    g.met.B.Blocks.clock c.requires.ready c.requires.command c.requires.draft c.requires.rights c.requires.few
    (is_stepped s.drafts c.step.new.self c.args.step.now c.in-Ok.reply (on_picked s.drafts c.step.new.self did.rest did.same) did.runs did.count did.fed)
    c.answer.ensures.answered c.answer.ensures.line
