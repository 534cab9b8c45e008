use Rattle.std.proofs.Common.{◌≡◌, take, map, length}
use Rattle.page_codec.specs.Reading.{reference}
use Rattle.page_codec.proofs.slots.fill_references.Given as goal

abbrev pub invariant-loop-i : goal.invariant-loop-i
invariant-loop-i l = record {
  size : length l.references ≡ length l.fn.references;
  front : take l.i l.references ≡ map reference (take l.i l.numbers);
}
