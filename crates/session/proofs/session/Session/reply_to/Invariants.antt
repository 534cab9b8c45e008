use Rattle.std.proofs.Common.{ℕ, ◌<◌}
use Rattle.session.specs.Sessions.{IsNumbered}
use Rattle.session.proofs.session.Session.reply_to.Given as goal

abbrev pub invariant-answers : goal.invariant-answers
invariant-answers l = (k : ℕ) → k < l.place → IsNumbered l.self.script k l.line → ⊥
