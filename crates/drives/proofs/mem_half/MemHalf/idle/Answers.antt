use Rattle.std.proofs.Common.{ap}
use Rattle.drives.specs.declared.call.Event.{Event}
use Rattle.drives.specs.Replay.{happened, state}
use Rattle.drives.proofs.Moments.{grown_same}
use Rattle.drives.proofs.mem_half.MemHalf.idle.Goals as goal

pub returns-clause-same : goal.returns-clause-same
returns-clause-same c =
    let half = c.args.self.now in
    grown_same half.first.items c.of.result.value half.events c.push.new.self c.push.ensures (ap (λ (e : Event). happened e (state half.first.items half.events)) c.of.ensures)
