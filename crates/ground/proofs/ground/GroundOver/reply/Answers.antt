use Rattle.std.proofs.Common.{◌≡◌, ◌-◌, ◌<◌, List, length, get_or, sym, ap, ◌∙◌, subst}
use Rattle.std.specs.Prelude.{slice_get}
use Rattle.session.specs.declared.session.Session.{Session}
use Rattle.ground.specs.Runs.{GroundValue}
use Rattle.ground.proofs.Clients.{at_of}
use Rattle.ground.proofs.Answered.{answered_by}
use Rattle.ground.proofs.ground.GroundOver.reply.Goals as goal

pub returns : goal.returns
returns g c =
    answered_by c.args.self.now c.args.client c.args.line c.in_ok-session.session.now c.reply_to.result
    (ap (λ n. slice_get c.args.self.now.sessions (n - 1)) (sym c.get.ensures.value) ∙ ap (λ (x : GroundValue _). slice_get x.sessions (c.get.result - 1)) (sym c.self.view_is)
    ∙ at_of c.self.inside.sessions.items (c.get.result - 1) c.in_ok-session.session.now c.in_ok-session.session.now
    (subst (λ (xs : List Session). c.get.result - 1 < length xs) c.deref.ensures.value c.in_ok-session.ensures.lookup.3.0)
    (subst (λ (xs : List Session). c.in_ok-session.session.now ≡ get_or xs (c.get.result - 1) c.in_ok-session.session.now) c.deref.ensures.value c.in_ok-session.ensures.lookup.1))
    c.reply_to.ensures
