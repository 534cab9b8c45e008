use Rattle.std.proofs.Common.{◌∙◌, ap, subst, List, ℕ}
use Rattle.drives.specs.declared.call.What.{What}
use Rattle.drives.specs.declared.call.Event.{Event}
use Rattle.drives.specs.Replay.{State, happened, done, state}
use Rattle.drives.specs.Crash.{LeavesOnly}
use Rattle.drives.specs.Left.{IsLeftBy, moment_after}
use Rattle.drives.proofs.Moments.{grown_only, grown_no_more}
use Rattle.drives.proofs.mem_half.MemHalf.settle.Goals as goal

pub returns-in-Ok-clause-durable : goal.returns-in-Ok-clause-durable
returns-in-Ok-clause-durable c =
    let half = c.args.self.now in
    let before = state half.first.items half.events in
    let happens = ap (λ (e : Event). happened e before) c.of.ensures ∙ ap (λ (w : What). done w before) c.in-Ok.ensures.told in
    subst (λ (b : List ℕ). LeavesOnly b (IsLeftBy half.first.items c.push.new.self (moment_after c.push.new.self))) half.known
    (grown_only half.first.items c.of.result.value half.events c.push.new.self c.push.ensures (ap (λ (s : State). s.bytes) happens) (ap (λ (s : State). s.spans) happens))

pub returns-in-Ok-clause-crash : goal.returns-in-Ok-clause-crash
returns-in-Ok-clause-crash c =
    let half = c.args.self.now in
    let before = state half.first.items half.events in
    let happens = ap (λ (e : Event). happened e before) c.of.ensures ∙ ap (λ (w : What). done w before) c.in-Ok.ensures.told in
    grown_no_more half.first.items c.of.result.value half.events c.push.new.self c.push.ensures (ap (λ (s : State). s.bytes) happens) (ap (λ (s : State). s.spans) happens)
