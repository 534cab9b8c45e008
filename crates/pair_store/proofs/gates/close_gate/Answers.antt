use Rattle.std.proofs.Common.{ℕ, ◌*◌, List, rules}
use Rattle.drives.specs.Crash.{Torn}
use Rattle.drives.specs.Changes.{HalvesLeft, OnHalves, bytes_of}
use Rattle.drives.proofs.Composing.{goes_on, leaves_now, weaker}
use Rattle.pair_store.specs.Content.{IsOpen}
use Rattle.pair_store.specs.Stages.{At, Kept}
use Rattle.pair_store.proofs.Relations.{At-weaker, Kept-at, Kept-then, image_of_half, untorn}
use Rattle.pair_store.proofs.GateLemmas.{torn_gate}
use Rattle.pair_store.proofs.HalfWriting.{Closing}
use Rattle.pair_store.proofs.gates.close_gate.Goals as goal

pub returns-clause-changes : goal.returns-clause-changes
returns-clause-changes g c =
    let now = g.V.Drives.moment in
    let left = g.V.Drives.may_leave in
    let half = c.args.half in
    let gate = λ (x y : List ℕ). Torn (1024 * c.args.n) 1 x y in
    goes_on now (HalvesLeft left) c.args.drives.now c.read_gate.new.drives c.write_synced.new.drives (OnHalves Kept) (OnHalves Kept) (OnHalves (At half gate)) (OnHalves (At half gate))
    c.read_gate.ensures.changes
    (leaves_now now (HalvesLeft left) c.args.drives.now c.read_gate.new.drives (OnHalves Kept) c.read_gate.ensures.changes)
    c.write_synced.ensures.changes
    (λ x y _ kept. Kept-at half gate x y (untorn (1024 * c.args.n) 1) kept)
    (λ x y z _ kept r. Kept-then half gate x y z kept r)

pub returns-clause-stages : goal.returns-clause-stages
returns-clause-stages g c = λ tells known.
    let now = g.V.Drives.moment in
    let left = g.V.Drives.may_leave in
    let old = c.args.drives.now in
    let half = c.args.half in
    let n = c.args.n in
    let gate = λ (x y : List ℕ). Torn (1024 * n) 1 x y in
    let read_open : IsOpen (g.V.Drives.seen old half) n = (c.in_ok-read_gate.ensures.open tells).0 (search rules) in
    weaker now (HalvesLeft left) old c.write_synced.new.drives (OnHalves (At half gate)) (OnHalves (At half (Closing n)))
    (returns-clause-changes g c)
    (λ x y image r.
    let is_open = (known (bytes_of x half) (image_of_half (λ h. left old h (now old)) x image half)).1 read_open in
    At-weaker half gate (Closing n) x y (torn_gate n (bytes_of x half) (bytes_of y half) is_open) r)
