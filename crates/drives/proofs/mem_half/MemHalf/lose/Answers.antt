use Rattle.std.proofs.Common.{refl, sym, ap, subst, List, ℕ}
use Rattle.drives.specs.declared.call.Event.{Event}
use Rattle.drives.specs.Bytes.{IsBytes}
use Rattle.drives.specs.Replay.{happened, state}
use Rattle.drives.proofs.Tearing.{untorn}
use Rattle.drives.proofs.Moments.{tearing_torn, tearing_each}
use Rattle.drives.proofs.mem_half.MemHalf.lose.Goals as goal

pub returns-clause-crash : goal.returns-clause-crash
returns-clause-crash c =
    let half = c.args.self.now in
    let happens = ap (λ (e : Event). happened e (state half.first.items half.events)) c.of.ensures in
    tearing_torn half.first.items c.of.result.value half.events c.push.new.self c.push.ensures c.args.at c.args.len _ happens refl (untorn _ _ _)
    (subst (λ (b : List ℕ). IsBytes b) (sym half.known) half.bytes_fit)

pub returns-clause-crash_all : goal.returns-clause-crash_all
returns-clause-crash_all c =
    let half = c.args.self.now in
    let happens = ap (λ (e : Event). happened e (state half.first.items half.events)) c.of.ensures in
    tearing_each half.first.items c.of.result.value half.events c.push.new.self c.push.ensures c.args.at c.args.len _ happens refl (untorn _ _ _)
