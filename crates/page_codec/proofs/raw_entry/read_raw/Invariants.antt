use Rattle.std.proofs.Common.{◌≡◌, take, map, length}
use Rattle.page_codec.specs.Numbers.{pieces}
use Rattle.page_codec.specs.TableReading.{raw_value}
use Rattle.page_codec.proofs.raw_entry.read_raw.Given as goal

abbrev pub invariant-loop-i : goal.invariant-loop-i
invariant-loop-i l = record {
  size : length l.raws ≡ length l.fn.raws;
  front : take l.i l.raws ≡ map raw_value (pieces 16 l.i l.bytes);
}
