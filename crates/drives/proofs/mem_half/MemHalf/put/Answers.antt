use Rattle.std.proofs.Common.{refl, sym, ◌∙◌, ap, subst, List, ℕ, length, ◌+◌, ◌≤◌}
use Rattle.drives.specs.declared.call.Event.{Event}
use Rattle.drives.specs.Bytes.{IsBytes}
use Rattle.drives.specs.Replay.{happened, state}
use Rattle.drives.proofs.Moments.{tearing_torn, tearing_each, done_write, overwritten_torn}
use Rattle.drives.proofs.mem_half.MemHalf.put.Goals as goal

pub returns-in-Ok-clause-crash : goal.returns-in-Ok-clause-crash
returns-in-Ok-clause-crash c =
    let half = c.args.self.now in
    let before = state half.first.items half.events in
    let happens = ap (λ (e : Event). happened e before) c.of.ensures ∙ done_write c.args.at c.args.bytes.now _ before c.in-Ok.ensures.told in
    let fits : c.args.at + length c.args.bytes.now ≤ length before.bytes = subst (λ (b : List ℕ). c.args.at + length c.args.bytes.now ≤ length b) (sym half.known) c.requires.range in
    tearing_torn half.first.items c.of.result.value half.events c.push.new.self c.push.ensures c.args.at _ _ happens refl (overwritten_torn _ _ _ fits)
    (subst (λ (b : List ℕ). IsBytes b) (sym half.known) half.bytes_fit)

pub returns-in-Ok-clause-crash_all : goal.returns-in-Ok-clause-crash_all
returns-in-Ok-clause-crash_all c =
    let half = c.args.self.now in
    let before = state half.first.items half.events in
    let happens = ap (λ (e : Event). happened e before) c.of.ensures ∙ done_write c.args.at c.args.bytes.now _ before c.in-Ok.ensures.told in
    let fits : c.args.at + length c.args.bytes.now ≤ length before.bytes = subst (λ (b : List ℕ). c.args.at + length c.args.bytes.now ≤ length b) (sym half.known) c.requires.range in
    tearing_each half.first.items c.of.result.value half.events c.push.new.self c.push.ensures c.args.at _ _ happens refl (overwritten_torn _ _ _ fits)
