use Rattle.std.proofs.Common.{◌≡◌, ◌+◌, ◌-◌, ◌^◌, drop}
use Rattle.pool_draft.specs.Keys.{digits, number_of}
use Rattle.pool_draft.proofs.row_key.Branch.of.Given as goal

abbrev pub invariant-loop-slot : goal.invariant-loop-slot
invariant-loop-slot l = (l.width ≡ 32 ^ (7 - l.slot-index))
    × (l.first + digits (7 - l.slot-index) (drop l.slot-index l.at) ≡ number_of (record { root = l.root; path = l.at }))
