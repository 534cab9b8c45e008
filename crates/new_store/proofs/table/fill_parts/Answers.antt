use Rattle.std.proofs.Common.{◌<◌, length, arith, ◌∙◌}
use Rattle.std.proofs.lemmas.List.{take_more_set, length-set}
use Rattle.std.proofs.lemmas.List.FromFn.{map-range_with_len_more}
use Rattle.new_store.specs.Layout.{part_block}
use Rattle.new_store.proofs.table.fill_parts.Goals as goal

pub loop-j-preserved : goal.loop-j-preserved
loop-j-preserved c =
    let j = c.loop-j.j in
    let f = part_block c.args.store.now.files in
    let within : j < length c.loop-j.parts = omega arith in
    let more = map-range_with_len_more f 0 j j (omega arith) in
    record {
      size = length-set c.loop-j.parts j c.part_block.result ∙ c.loop-j.invariant.size;
      front = take_more_set c.loop-j.parts j c.part_block.result within
          ∙ cc (c.loop-j.invariant.front, c.part_block.ensures, more);
    }
