use Rattle.std.proofs.Common.{◌≡◌, ◌+◌, ◌*◌, ◌++◌, take}
use Rattle.std.specs.List.{flat_map, AllByRecursion}
use Rattle.page_codec.specs.Bounds.{IsEntry}
use Rattle.page_codec.specs.TableSpelling.{entry_bytes}
use Rattle.page_codec.proofs.table_bytes.put_entries.Given as goal

abbrev pub invariant-loop-entry : goal.invariant-loop-entry
invariant-loop-entry l = record {
  place : l.place ≡ l.fn.at + 16 * l.entry-index;
  front : take l.place l.block ≡ take l.fn.at l.fn.block ++ flat_map entry_bytes (take l.entry-index l.entries);
  spelled : AllByRecursion IsEntry (take l.entry-index l.entries);
}
