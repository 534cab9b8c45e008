use Rattle.std.proofs.Common.{◌≡◌, take, map, length}
use Rattle.std.specs.List.{range_with_len}
use Rattle.new_store.specs.Layout.{part_block}
use Rattle.new_store.proofs.table.fill_parts.Given as goal

abbrev pub invariant-loop-j : goal.invariant-loop-j
invariant-loop-j l = record {
  size : length l.parts ≡ length l.fn.parts;
  front : take l.j l.parts ≡ map (part_block l.store.files) (range_with_len 0 l.j);
}
