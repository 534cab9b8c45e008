use Rattle.std.proofs.Common.{◌≡◌, ℕ, ◌+◌, ◌*◌, List, length, arith, subst, sym}
use Rattle.std.proofs.lemmas.Result.{on_ok_weaker}
use Rattle.drives.specs.Crash.{HasAt}
use Rattle.pair_store.proofs.GateLemmas.{has_gate, opened_body, torn_open}
use Rattle.pair_store.proofs.HalfWriting.{body_changes, body_stages, open_changes, open_stages}
use Rattle.pair_store.proofs.half_write.write_half.Goals as goal

pub returns-in_err-write_synced-clause-changes : goal.returns-in_err-write_synced-clause-changes
returns-in_err-write_synced-clause-changes g c =
    let long : length c.behind_gate.result.now + 1 ≡ 1024 = omega (arith, c.behind_gate.ensures.length) in
    body_changes g.V.Drives.moment g.V.Drives.may_leave c.args.half c.args.n c.args.body.now c.behind_gate.result.now c.requires.open long c.behind_gate.ensures.bytes
    c.args.drives.now c.close_gate.new.drives c.write_synced.new.drives c.close_gate.ensures.changes c.write_synced.ensures.changes

pub returns-in_err-write_synced-clause-stages : goal.returns-in_err-write_synced-clause-stages
returns-in_err-write_synced-clause-stages g c = λ tells known.
    let long : length c.behind_gate.result.now + 1 ≡ 1024 = omega (arith, c.behind_gate.ensures.length) in
    body_stages g.V.Drives.moment g.V.Drives.may_leave c.args.half c.args.n c.args.body.now c.behind_gate.result.now c.requires.open long c.behind_gate.ensures.bytes
    c.args.drives.now c.close_gate.new.drives c.write_synced.new.drives c.close_gate.ensures.changes c.write_synced.ensures.changes
    (c.close_gate.ensures.stages tells known) (c.in_ok-close_gate.ensures.left_closed tells known)

pub returns-clause-changes : goal.returns-clause-changes
returns-clause-changes g c =
    let long : length c.behind_gate.result.now + 1 ≡ 1024 = omega (arith, c.behind_gate.ensures.length) in
    open_changes g.V.Drives.moment g.V.Drives.may_leave c.args.half c.args.n c.args.body.now c.behind_gate.result.now c.requires.open long c.behind_gate.ensures.bytes
    c.args.drives.now c.close_gate.new.drives c.write_synced.new.drives c.close_gate.ensures.changes c.write_synced.ensures.changes
    c.write_synced-2.new.drives c.write_synced-2.ensures.changes

pub returns-clause-stages : goal.returns-clause-stages
returns-clause-stages g c = λ tells known.
    let long : length c.behind_gate.result.now + 1 ≡ 1024 = omega (arith, c.behind_gate.ensures.length) in
    let on_disk = λ (x : List ℕ) (image : g.V.Drives.may_leave c.write_synced.new.drives c.args.half (g.V.Drives.moment c.write_synced.new.drives) x).
    subst (λ (y : List ℕ). HasAt (1024 * c.args.n + 1) c.behind_gate.result.now y) (sym (c.in_ok-write_synced.ensures.durable tells x image)) (c.in_ok-write_synced.ensures.written tells) in
    open_stages g.V.Drives.moment g.V.Drives.may_leave c.args.half c.args.n c.args.body.now c.behind_gate.result.now c.requires.open long c.behind_gate.ensures.bytes
    c.args.drives.now c.close_gate.new.drives c.write_synced.new.drives c.close_gate.ensures.changes c.write_synced.ensures.changes
    (c.close_gate.ensures.stages tells known) (c.in_ok-close_gate.ensures.left_closed tells known)
    c.write_synced-2.new.drives c.write_synced-2.ensures.changes on_disk

pub returns-clause-written : goal.returns-clause-written
returns-clause-written g c = λ tells.
    let long : length c.behind_gate.result.now + 1 ≡ 1024 = omega (arith, c.behind_gate.ensures.length) in
    on_ok_weaker c.write_synced-2.result (λ has. opened_body c.args.n c.args.body.now c.behind_gate.result.now c.requires.open long c.behind_gate.ensures.bytes _ _
    (c.in_ok-write_synced.ensures.written tells) (c.write_synced-2.ensures.range tells) (has_gate c.args.n _ has))
    (c.write_synced-2.ensures.written tells)

pub returns-clause-seen_stages : goal.returns-clause-seen_stages
returns-clause-seen_stages g c = λ tells.
    let long : length c.behind_gate.result.now + 1 ≡ 1024 = omega (arith, c.behind_gate.ensures.length) in
    torn_open c.args.n c.args.body.now c.behind_gate.result.now c.requires.open long c.behind_gate.ensures.bytes _ _ _
    (c.in_ok-write_synced.ensures.written tells) (c.write_synced-2.ensures.range tells)
