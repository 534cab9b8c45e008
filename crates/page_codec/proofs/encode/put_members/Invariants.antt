use Rattle.std.proofs.Common.{◌≡◌, ◌+◌, ◌*◌, ◌++◌, take}
use Rattle.std.specs.List.{flat_map, AllByRecursion}
use Rattle.page_codec.specs.Bounds.{IsMember}
use Rattle.page_codec.specs.Spelling.{member_bytes}
use Rattle.page_codec.proofs.encode.put_members.Given as goal

abbrev pub invariant-loop-member : goal.invariant-loop-member
invariant-loop-member l = record {
  place : l.place ≡ l.fn.at + 8 * l.member-index;
  front : take l.place l.block ≡ take l.fn.at l.fn.block ++ flat_map member_bytes (take l.member-index l.members);
  spelled : AllByRecursion IsMember (take l.member-index l.members);
}
