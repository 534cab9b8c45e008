use Rattle.std.proofs.Common.{◌≡◌, ◌+◌, ◌*◌, ◌++◌, take}
use Rattle.std.specs.List.{flat_map}
use Rattle.page_codec.specs.TableSpelling.{part_number_bytes}
use Rattle.page_codec.proofs.table_bytes.put_parts.Given as goal

abbrev pub invariant-loop-part : goal.invariant-loop-part
invariant-loop-part l = record {
  place : l.place ≡ l.fn.at + 4 * l.part-index;
  front : take l.place l.block ≡ take l.fn.at l.fn.block ++ flat_map part_number_bytes (take l.part-index l.parts);
}
