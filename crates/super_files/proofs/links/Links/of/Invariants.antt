use Rattle.std.proofs.Common.{◌≡◌, take}
use Rattle.super_files.proofs.links.Links.of.Given as goal

abbrev pub invariant-loop-member : goal.invariant-loop-member
invariant-loop-member l = l.list.items ≡ take l.member-index l.member-items
