-- A page of level 7 has no slot in use.
use Rattle.std.proofs.Common.{ap, map, ◌∙◌}
use Rattle.std.specs.List.{list_any}
use Rattle.page_codec.specs.Bounds.{is_used}
use Rattle.page_codec.specs.Reading.{reference, slots}
use Rattle.page_codec.proofs.SlotLaws.{unused_references}
use Rattle.page_codec.proofs.decode.frame_at.Goals as goal

pub invariant_of-result : goal.invariant_of-result
invariant_of-result c = record {
  depth = c.requires.facts.depth;
  leaf = λ seven. ap (list_any is_used) (c.references_of.ensures ∙ ap (map reference) c.requires.slots) ∙ unused_references (slots c.args.block.now) (c.requires.facts.leaf seven);
}
