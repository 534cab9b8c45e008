use Rattle.std.proofs.Common.{◌≡◌, ℕ, ◌+◌, ◌*◌, ◌≤◌, List, length, sym, subst, arith}
use Rattle.drives.specs.declared.device.Half.TheVariants.{A, B}
use Rattle.drives.specs.Changes.{halves_seen}
use Rattle.drives.specs.Crash.{HasAt}
use Rattle.pair_store.proofs.RunLaws.{run_front, run_read}
use Rattle.pair_store.proofs.runs.count_settled.Goals as goal

pub returns-in-Ok-read_bytes-clause-settled : goal.returns-in-Ok-read_bytes-clause-settled
returns-in-Ok-read_bytes-clause-settled g c = λ tells.
    let old = c.args.drives.now in
    let seen = g.V.Drives.seen in
    let b = c.read_bytes.new.buf in
    let a = c.read_bytes-2.new.buf in
    let has_b : HasAt (1024 * c.args.first) b (seen old B) = c.in-Ok.ensures.read tells in
    let has_a = subst (λ (x : List ℕ). HasAt (1024 * c.args.first) a x) (c.read_bytes.ensures.same tells A) (c.in-Ok-read_bytes.ensures.read tells) in
    let full_b : length b ≡ 1024 * c.args.count = omega (arith, c.read_bytes.auto.buf, c.requires.few) in
    let full_a : length a ≡ 1024 * c.args.count = omega (arith, c.read_bytes-2.auto.buf, c.requires.few) in
    let long_a = g.met.V.Drives.whole old A tells in
    let long_b = g.met.V.Drives.whole old B tells in
    run_read c.args.first c.args.count c.count_in.result a b (halves_seen seen old) full_a full_b
    (omega (arith, full_a, long_a, c.requires.high)) (omega (arith, full_b, long_b, c.requires.high)) has_a has_b (run_front _ _ full_a full_b c.count_in.ensures)
