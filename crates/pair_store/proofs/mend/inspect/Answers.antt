use Rattle.std.proofs.Common.{◌≡◌, ℕ, ◌+◌, ◌*◌, ◌≤◌, List, length, arith, subst, sym}
use Rattle.drives.specs.declared.device.Half.TheVariants.{A, B}
use Rattle.pair_store.specs.Content.{block_on}
use Rattle.pair_store.specs.Mending.{IsPlan}
use Rattle.pair_store.specs.Stages.{HasBody}
use Rattle.pair_store.proofs.Contents.{body_block}
use Rattle.pair_store.proofs.mend.inspect.Goals as goal

pub returns-in-Ok-read_half-clause-found : goal.returns-in-Ok-read_half-clause-found
returns-in-Ok-read_half-clause-found g c = λ tells.
    let old = c.args.drives.now in
    let n = c.args.n in
    let a = c.read_half-2.new.into in
    let b = c.read_half.new.into in
    let full_a : length a ≡ 1024 = omega (arith, c.read_half-2.array_long) in
    let full_b : length b ≡ 1024 = omega (arith, c.read_half.array_long) in
    let whole_a : 1024 * n + 1024 ≤ length (g.V.Drives.seen old A) = omega (arith, g.met.V.Drives.whole old A tells, c.requires) in
    let whole_b : 1024 * n + 1024 ≤ length (g.V.Drives.seen old B) = omega (arith, g.met.V.Drives.whole old B tells, c.requires) in
    let has = subst (λ (x : List ℕ). HasBody n a x) (c.read_half.ensures.same tells A) (c.in-Ok-read_half.ensures.bytes tells) in
    let is_a = sym (body_block n a (g.V.Drives.seen old A) whole_a full_a has) in
    let is_b = sym (body_block n b (g.V.Drives.seen old B) whole_b full_b (c.in-Ok.ensures.bytes tells)) in
    let from_b = subst (λ (w : List ℕ). IsPlan a w c.plan.new.body c.plan.result) is_b c.plan.ensures in
    subst (λ (w : List ℕ). IsPlan w (block_on (g.V.Drives.seen old B) n) c.plan.new.body c.plan.result) is_a from_b
