use Rattle.std.proofs.Common.{sym, ◌∙◌, arith, below_more, true≢false}
use Rattle.std.proofs.lemmas.Option.{slice_get_within}
use Rattle.session.specs.Sessions.{IsNumbered}
use Rattle.session.proofs.session.Session.reply_to.Goals as goal

pub answers-preserved : goal.answers-preserved
answers-preserved c = below_more (λ k. IsNumbered c.args.self.now.script k c.args.line → ⊥) _ c.answers.invariant (λ is. absurd (true≢false (sym (c.is_line.ensures.1 is) ∙ c.if-is_line.false)))

pub returns : goal.returns
returns c = λ reply is. c.answers.invariant is.place (let within = slice_get_within _ is.place reply is.is in omega (arith, within)) is.line
