use Rattle.std.proofs.Common.{refl}
use Rattle.drives.proofs.Composing.{call_changes}
use Rattle.pair_store.specs.Stages.{Kept}
use Rattle.pair_store.proofs.Relations.{read_leaves}
use Rattle.pair_store.proofs.steps.read_bytes.Goals as goal

pub returns-clause-changes : goal.returns-clause-changes
returns-clause-changes g c =
    let now = g.V.Drives.moment in
    let left = g.V.Drives.may_leave in
    let old = c.args.drives.now in
    let new = c.read.new.self in
    call_changes now left old new Kept (λ h x. refl) (g.met.V.Drives.clock old) c.read.ensures.time c.read.ensures.past
    (read_leaves (λ h. left old h (now old)) (λ h. left new h (now new)) c.read.ensures.crash)
