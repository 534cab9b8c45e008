use Rattle.std.proofs.Common.{◌∷◌, ◌++◌, [], length-append, sym, subst, arith}
use Rattle.ground.specs.Making.{AreNewcomers}
use Rattle.ground.proofs.Newcomers.{newcomers_more}
use Rattle.ground.proofs.making.sessions_of.Goals as goal

pub loop-script-preserved : goal.loop-script-preserved
loop-script-preserved c =
    let more = newcomers_more c.loop-script.yielded c.loop-script.sessions.items c.in-Some.script c.in_ok-session.session c.client_at.result c.loop-script.invariant.2 (omega arith) c.in_ok-session.ensures in (
      tt,
      tt,
      subst (AreNewcomers (c.loop-script.yielded ++ c.in-Some.script ∷ [])) (sym c.in_ok-push.ensures.items) more,
      (let long = length-append c.loop-script.yielded (c.in-Some.script ∷ []) in let len = c.in_ok-push.ensures.len in omega (arith, long, len)),
    )
