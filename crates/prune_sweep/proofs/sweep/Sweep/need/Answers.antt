use Rattle.std.proofs.Common.{subst}
use Rattle.std.specs.Prelude.{IfNone}
use Rattle.prune_sweep.specs.Sweeping.{FindsFreed}
use Rattle.prune_sweep.proofs.Feeding.{need_finds}
use Rattle.prune_sweep.proofs.sweep.Sweep.need.Goals as goal

pub returns-clause-finds : goal.returns-clause-finds
returns-clause-finds c =
    subst (λ s. IfNone c.self.inside.next (FindsFreed s)) c.self.view_is
    (need_finds (record { known = c.self.inside.known; next = c.self.inside.next; given = c.self.inside.given }) c.self.invariant)
