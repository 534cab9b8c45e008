use Rattle.std.proofs.Common.{◌≡◌, take}
use Rattle.store_check.proofs.tops.copy_of.Given as goal

abbrev pub invariant-members : goal.invariant-members
invariant-members l = l.copy ≡ take l.member-index l.member-items
