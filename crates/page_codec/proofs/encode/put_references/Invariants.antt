use Rattle.std.proofs.Common.{◌≡◌, ◌+◌, ◌*◌, ◌++◌, take}
use Rattle.std.specs.List.{flat_map, AllByRecursion}
use Rattle.page_codec.specs.Bounds.{IsReference}
use Rattle.page_codec.specs.Spelling.{reference_bytes}
use Rattle.page_codec.proofs.encode.put_references.Given as goal

abbrev pub invariant-loop-reference : goal.invariant-loop-reference
invariant-loop-reference l = record {
  place : l.place ≡ l.fn.at + 4 * l.reference-index;
  front : take l.place l.block ≡ take l.fn.at l.fn.block ++ flat_map reference_bytes (take l.reference-index l.references);
  spelled : AllByRecursion IsReference (take l.reference-index l.references);
}
