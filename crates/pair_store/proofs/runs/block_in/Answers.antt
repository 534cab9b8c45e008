use Rattle.std.proofs.Common.{◌≡◌, ℕ, ◌+◌, ◌-◌, ◌*◌, take, drop, ap, arith}
use Rattle.pair_store.proofs.runs.block_in.Goals as goal

pub returns-clause-block : goal.returns-clause-block
returns-clause-block c =
    ap (λ (k : ℕ). take k (drop (1024 * c.args.n) c.args.bytes.now)) (let e : 1024 * c.args.n + 1024 - 1024 * c.args.n ≡ 1024 = omega arith in e)
