use Rattle.std.proofs.Common.{◌≡◌, length}
use Rattle.frame_pool.specs.Leasing.{AreUnused}
use Rattle.frame_pool.proofs.leases.Leases.make.Given as goal

abbrev pub invariant-loop-k : goal.invariant-loop-k
invariant-loop-k g l = (length l.rest.items ≡ l.k) × AreUnused (λ x. x.run) (λ x. x.rows.items) l.clients l.rest.items
