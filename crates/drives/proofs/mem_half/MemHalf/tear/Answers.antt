use Rattle.std.proofs.Common.{refl, sym, ◌∙◌, ap, subst, List, ℕ}
use Rattle.drives.specs.declared.call.What.{What}
use Rattle.drives.specs.declared.call.Event.{Event}
use Rattle.drives.specs.Bytes.{IsBytes}
use Rattle.drives.specs.Replay.{happened, done, state}
use Rattle.drives.proofs.Tearing.{untorn}
use Rattle.drives.proofs.Moments.{tearing_torn, tearing_each}
use Rattle.drives.proofs.mem_half.MemHalf.tear.Goals as goal

pub returns-in-Ok-clause-crash : goal.returns-in-Ok-clause-crash
returns-in-Ok-clause-crash c =
    let half = c.args.self.now in
    let before = state half.first.items half.events in
    let happens = ap (λ (e : Event). happened e before) c.of.ensures ∙ ap (λ (w : What). done w before) c.in-Ok.ensures.told in
    tearing_torn half.first.items c.of.result.value half.events c.push.new.self c.push.ensures c.args.at c.args.len _ happens refl (untorn _ _ _)
    (subst (λ (b : List ℕ). IsBytes b) (sym half.known) half.bytes_fit)

pub returns-in-Ok-clause-crash_all : goal.returns-in-Ok-clause-crash_all
returns-in-Ok-clause-crash_all c =
    let half = c.args.self.now in
    let before = state half.first.items half.events in
    let happens = ap (λ (e : Event). happened e before) c.of.ensures ∙ ap (λ (w : What). done w before) c.in-Ok.ensures.told in
    tearing_each half.first.items c.of.result.value half.events c.push.new.self c.push.ensures c.args.at c.args.len _ happens refl (untorn _ _ _)
