use Rattle.std.proofs.Common.{◌≡◌, take, map, length}
use Rattle.page_codec.specs.TableReading.{entry_value}
use Rattle.page_codec.proofs.raw_entry.fill_entries.Given as goal

abbrev pub invariant-loop-i : goal.invariant-loop-i
invariant-loop-i l = record {
  size : length l.entries ≡ length l.fn.entries;
  front : take l.i l.entries ≡ map entry_value (take l.i l.raws);
}
