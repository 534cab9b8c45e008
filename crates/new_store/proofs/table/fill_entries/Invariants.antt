use Rattle.std.proofs.Common.{◌≡◌, take, map, length}
use Rattle.std.specs.List.{range_with_len}
use Rattle.page_codec.specs.NewStore.{new_entry}
use Rattle.new_store.proofs.table.fill_entries.Given as goal

abbrev pub invariant-loop-i : goal.invariant-loop-i
invariant-loop-i l = record {
  size : length l.entries ≡ length l.fn.entries;
  front : take l.i l.entries ≡ map (new_entry l.store.files l.store.key) (range_with_len l.object l.i);
}
