use Rattle.std.proofs.Common.{ℕ, List, sym, ◌∙◌, ap}
use Rattle.drives.specs.declared.device.Half.TheVariants.{A, B}
use Rattle.drives.specs.Changes.{HalvesLeft, OnHalves}
use Rattle.drives.proofs.Composing.{leaves_now}
use Rattle.pair_store.specs.Content.{gate}
use Rattle.pair_store.specs.Stages.{At}
use Rattle.pair_store.proofs.HalfWriting.{Gate}
use Rattle.pair_store.proofs.ClosingLaws.{both_elsewhere, both_shutting, half_shut_now, known_still}
use Rattle.pair_store.proofs.close.close_both.Goals as goal

pub returns-in-Ok-close_gate-clause-shutting : goal.returns-in-Ok-close_gate-clause-shutting
returns-in-Ok-close_gate-clause-shutting g c = λ tells known.
    let old = c.args.drives.now in
    let mid = c.close_gate.new.drives in
    let seen = g.V.Drives.seen in
    let now = g.V.Drives.moment in
    let left = g.V.Drives.may_leave in
    let n = c.args.n in
    let changes = c.close_gate.ensures.changes in
    let still = known_still seen now left n old mid changes (g.met.V.Drives.left_read mid A tells) (c.close_gate.ensures.other_same tells) (known B) in
    both_shutting seen now left n old mid c.close_gate-2.new.drives
    (c.close_gate.ensures.stages tells (known A))
    (half_shut_now seen now left n old mid changes (c.in-Ok.ensures.left_closed tells (known A)))
    (c.close_gate-2.ensures.stages tells still)

pub returns-in-Err-close_gate-clause-shutting : goal.returns-in-Err-close_gate-clause-shutting
returns-in-Err-close_gate-clause-shutting g c = λ tells known.
    let old = c.args.drives.now in
    let mid = c.close_gate.new.drives in
    let seen = g.V.Drives.seen in
    let now = g.V.Drives.moment in
    let left = g.V.Drives.may_leave in
    let n = c.args.n in
    let changes = c.close_gate.ensures.changes in
    let still = known_still seen now left n old mid changes (g.met.V.Drives.left_read mid A tells) (c.close_gate.ensures.other_same tells) (known B) in
    both_shutting seen now left n old mid c.close_gate-2.new.drives
    (c.close_gate.ensures.stages tells (known A))
    (half_shut_now seen now left n old mid changes (c.in-Ok.ensures.left_closed tells (known A)))
    (c.close_gate-2.ensures.stages tells still)

pub returns-in-Ok-close_gate-clause-shut : goal.returns-in-Ok-close_gate-clause-shut
returns-in-Ok-close_gate-clause-shut g c = λ tells known x image.
    let old = c.args.drives.now in
    let mid = c.close_gate.new.drives in
    let new = c.close_gate-2.new.drives in
    let seen = g.V.Drives.seen in
    let now = g.V.Drives.moment in
    let left = g.V.Drives.may_leave in
    let n = c.args.n in
    let still = known_still seen now left n old mid c.close_gate.ensures.changes (g.met.V.Drives.left_read mid A tells) (c.close_gate.ensures.other_same tells) (known B) in
    let from = leaves_now now (HalvesLeft left) mid new (OnHalves (At B (Gate n))) c.close_gate-2.ensures.changes x image in (
      λ e. c.in-Ok.ensures.left_closed tells (known A) from.0.a from.1.0 (sym (ap (λ (w : List ℕ). gate w n) from.2.0) ∙ e),
      c.in-Ok-close_gate.ensures.left_closed tells still x.b image.1,
    )

pub returns-in-Ok-close_gate-clause-elsewhere : goal.returns-in-Ok-close_gate-clause-elsewhere
returns-in-Ok-close_gate-clause-elsewhere g c =
    both_elsewhere g.V.Drives.seen g.V.Drives.moment g.V.Drives.may_leave c.args.n c.args.drives.now c.close_gate.new.drives c.close_gate-2.new.drives c.close_gate.ensures.changes c.close_gate-2.ensures.changes

pub returns-in-Err-close_gate-clause-elsewhere : goal.returns-in-Err-close_gate-clause-elsewhere
returns-in-Err-close_gate-clause-elsewhere g c =
    both_elsewhere g.V.Drives.seen g.V.Drives.moment g.V.Drives.may_leave c.args.n c.args.drives.now c.close_gate.new.drives c.close_gate-2.new.drives c.close_gate.ensures.changes c.close_gate-2.ensures.changes
