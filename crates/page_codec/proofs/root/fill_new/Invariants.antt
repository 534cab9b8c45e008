use Rattle.std.proofs.Common.{◌≡◌, take, map, length}
use Rattle.std.specs.List.{range_with_len}
use Rattle.page_codec.specs.NewStore.{new_entry}
use Rattle.page_codec.proofs.root.fill_new.Given as goal

abbrev pub invariant-loop-i : goal.invariant-loop-i
invariant-loop-i l = record {
  size : length l.entries ≡ length l.fn.entries;
  front : take l.i l.entries ≡ map (new_entry l.files l.key) (range_with_len 1 l.i);
}
