use Rattle.std.proofs.Common.{◌≡◌, ◌≢◌, ◌+◌, ◌*◌, ◌≤◌, inl, inr, ℕ, List, length, sym, ◌∙◌, subst, arith, rules}
use Rattle.drives.specs.declared.device.Half.TheVariants.{A, B}
use Rattle.drives.specs.Changes.{halves_seen}
use Rattle.drives.specs.Faults.{HasFailed}
use Rattle.pair_store.specs.Content.{IsOpen, gate}
use Rattle.pair_store.specs.Stages.{HasBody}
use Rattle.pair_store.proofs.Contents.{body_block, read_a, read_b, shut_gate}
use Rattle.pair_store.proofs.read.read_both.Goals as goal

pub returns-in-Ok-true-clause-found : goal.returns-in-Ok-true-clause-found
returns-in-Ok-true-clause-found g c = λ tells.
    let old = c.args.drives.now in
    let n = c.args.n in
    let full : length c.read_half.new.into ≡ 1024 = omega (arith, c.read_half.array_long) in
    let whole : 1024 * n + 1024 ≤ length (g.V.Drives.seen old B) = omega (arith, g.met.V.Drives.whole old B tells, c.requires) in
    let is_open : IsOpen (g.V.Drives.seen old B) n = (c.in-Ok-true.ensures.open tells).0 (search rules) in
    inl (read_b n c.read_half.new.into (halves_seen g.V.Drives.seen old) full whole is_open (c.in-Ok-true.ensures.bytes tells))

pub returns-in-Ok-true-read_half-clause-found : goal.returns-in-Ok-true-read_half-clause-found
returns-in-Ok-true-read_half-clause-found g c = λ tells.
    let old = c.args.drives.now in
    let n = c.args.n in
    let into = c.read_half-in-Ok-false.new.into in
    let same = c.read_half.ensures.same tells A in
    let full : length into ≡ 1024 = omega (arith, c.read_half-in-Ok-false.array_long) in
    let whole : 1024 * n + 1024 ≤ length (g.V.Drives.seen old A) = omega (arith, g.met.V.Drives.whole old A tells, c.requires) in
    let shut : gate (g.V.Drives.seen old B) n ≢ 165 = shut_gate _ _ c.in-Ok-false.field-0-test (c.in-Ok-false.ensures.open tells) in
    let mid_open : IsOpen (g.V.Drives.seen c.read_half.new.drives A) n = (c.in-Ok-true-read_half.ensures.open tells).0 (search rules) in
    let is_open : IsOpen (g.V.Drives.seen old A) n = subst (λ (x : List ℕ). IsOpen x n) same mid_open in
    inl (read_a n into (halves_seen g.V.Drives.seen old) full whole shut is_open (subst (λ (x : List ℕ). HasBody n into x) same (c.in-Ok-true-read_half.ensures.bytes tells)))

pub returns-in-Ok-true-read_half-2-clause-found : goal.returns-in-Ok-true-read_half-2-clause-found
returns-in-Ok-true-read_half-2-clause-found g c = λ tells.
    let old = c.args.drives.now in
    let n = c.args.n in
    let mid = c.read_half.new.drives in
    let new = c.read_half-in-Err.new.drives in
    let into = c.read_half-in-Err.new.into in
    let same = c.read_half.ensures.same tells A in
    let full : length into ≡ 1024 = omega (arith, c.read_half-in-Err.array_long) in
    let whole : 1024 * n + 1024 ≤ length (g.V.Drives.seen old A) = omega (arith, g.met.V.Drives.whole old A tells, c.requires) in
    let mid_open : IsOpen (g.V.Drives.seen mid A) n = (c.in-Ok-true-read_half-2.ensures.open tells).0 (search rules) in
    let is_open : IsOpen (g.V.Drives.seen old A) n = subst (λ (x : List ℕ). IsOpen x n) same mid_open in
    let has = subst (λ (x : List ℕ). HasBody n into x) same (c.in-Ok-true-read_half-2.ensures.bytes tells) in
    let fault = c.in-Err.ensures.cause.failed in
    let stays = c.read_half-in-Err.ensures.other in
    let failed = subst (λ (k : ℕ). HasFailed (g.V.Drives.faults old B) k (g.V.Drives.last_fault new B)) (sym stays.0)
    (subst (λ (t : ℕ). HasFailed (g.V.Drives.faults old B) (g.V.Drives.faults mid B) t) (sym (stays.1 ∙ fault.1)) fault.0) in
    inr (failed, is_open, body_block n into (g.V.Drives.seen old A) whole full has)
