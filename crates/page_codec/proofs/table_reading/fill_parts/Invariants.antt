use Rattle.std.proofs.Common.{◌≡◌, take, map, length}
use Rattle.page_codec.specs.Numbers.{or_none}
use Rattle.page_codec.proofs.table_reading.fill_parts.Given as goal

abbrev pub invariant-loop-i : goal.invariant-loop-i
invariant-loop-i l = record {
  size : length l.parts ≡ length l.fn.parts;
  front : take l.i l.parts ≡ map or_none (take l.i l.numbers);
}
