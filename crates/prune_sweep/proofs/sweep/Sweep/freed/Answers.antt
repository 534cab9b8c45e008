use Rattle.std.proofs.Common.{subst, ap, ◌∙◌}
use Rattle.prune_sweep.specs.Sweeps.{SweepState}
use Rattle.prune_sweep.specs.Sweeping.{FindsFreed}
use Rattle.prune_sweep.proofs.Feeding.{freed_finds}
use Rattle.prune_sweep.proofs.sweep.Sweep.freed.Goals as goal

pub returns-clause-finds : goal.returns-clause-finds
returns-clause-finds c =
    subst FindsFreed c.self.view_is
    (freed_finds (record { known = c.self.inside.known; next = c.self.inside.next; given = c.self.inside.given }) c.self.invariant
    (ap (λ (s : SweepState). s.next) c.self.view_is ∙ c.requires))
