use Rattle.std.proofs.Common.{◌≡◌, map, length}
use Rattle.page_codec.specs.Numbers.{pieces}
use Rattle.page_codec.specs.Reading.{member_value}
use Rattle.page_codec.proofs.decode.members_from.Given as goal

abbrev pub invariant-loop-i : goal.invariant-loop-i
invariant-loop-i l = record {
  size : length l.members ≡ l.i;
  front : l.members ≡ map member_value (pieces 8 l.i l.bytes);
}
