use Rattle.std.proofs.Common.{◌≡◌, take}
use Rattle.version_chain.proofs.flush.same_members.Given as goal

abbrev pub invariant-loop-member : goal.invariant-loop-member
invariant-loop-member l = l.copy ≡ take l.member-index l.member-items
