use Rattle.std.proofs.Common.{List, ℕ, length, refl}
use Rattle.drives.specs.Crash.{Torn}
use Rattle.drives.specs.Changes.{HalvesLeft, OnHalves}
use Rattle.drives.proofs.Composing.{call_changes, goes_on, leaves_now}
use Rattle.pair_store.specs.Stages.{At, Kept}
use Rattle.pair_store.proofs.Relations.{At-kept, At-same, sync_leaves, untorn, write_leaves}
use Rattle.pair_store.proofs.steps.write_synced.Goals as goal

pub returns-in_err-write-clause-changes : goal.returns-in_err-write-clause-changes
returns-in_err-write-clause-changes g c =
    let now = g.V.Drives.moment in
    let left = g.V.Drives.may_leave in
    let old = c.args.drives.now in
    let mid = c.write.new.self in
    let half = c.args.half in
    let n = length c.args.bytes.now in
    let torn = λ (x y : List ℕ). Torn c.args.at n x y in
    call_changes now left old mid (At half torn) (At-same half torn (untorn c.args.at n)) (g.met.V.Drives.clock old) c.write.ensures.time c.write.ensures.past
    (write_leaves (λ h. left old h (now old)) (λ h. left mid h (now mid)) half torn c.write.ensures.crash c.write.ensures.other_crash)

pub returns-clause-changes : goal.returns-clause-changes
returns-clause-changes g c =
    let now = g.V.Drives.moment in
    let left = g.V.Drives.may_leave in
    let old = c.args.drives.now in
    let mid = c.write.new.self in
    let new = c.sync.new.self in
    let half = c.args.half in
    let n = length c.args.bytes.now in
    let torn = λ (x y : List ℕ). Torn c.args.at n x y in
    let same = At-same half torn (untorn c.args.at n) in
    let leaves = write_leaves (λ h. left old h (now old)) (λ h. left mid h (now mid)) half torn c.write.ensures.crash c.write.ensures.other_crash in
    let first = call_changes now left old mid (At half torn) same (g.met.V.Drives.clock old) c.write.ensures.time c.write.ensures.past leaves in
    goes_on now (HalvesLeft left) old mid new (OnHalves (At half torn)) (OnHalves (At half torn)) (OnHalves Kept) (OnHalves (At half torn))
    first
    (leaves_now now (HalvesLeft left) old mid (OnHalves (At half torn)) first)
    (call_changes now left mid new Kept (λ h x. refl) (g.met.V.Drives.clock mid) c.sync.ensures.time c.sync.ensures.past
    (sync_leaves (λ h. left mid h (now mid)) (λ h. left new h (now new)) half c.sync.ensures.crash c.sync.ensures.other_crash))
    (λ x y left r. r)
    (λ x y z left r kept. At-kept half torn x y z r kept)
