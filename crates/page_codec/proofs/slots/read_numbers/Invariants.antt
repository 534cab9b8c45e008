use Rattle.std.proofs.Common.{◌≡◌, take, map, length}
use Rattle.std.specs.Int.{w32}
use Rattle.page_codec.specs.Numbers.{number_at, pieces}
use Rattle.page_codec.proofs.slots.read_numbers.Given as goal

abbrev pub invariant-loop-i : goal.invariant-loop-i
invariant-loop-i l = record {
  size : length l.numbers ≡ length l.fn.numbers;
  front : take l.i l.numbers ≡ map (number_at w32 0) (pieces 4 l.i l.bytes);
}
