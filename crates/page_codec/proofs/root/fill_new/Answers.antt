use Rattle.std.proofs.Common.{◌+◌, ◌<◌, length, arith, ◌∙◌}
use Rattle.std.proofs.lemmas.List.{take_more_set, length-set}
use Rattle.std.proofs.lemmas.List.FromFn.{map-range_with_len_more}
use Rattle.page_codec.specs.NewStore.{new_entry}
use Rattle.page_codec.proofs.root.fill_new.Goals as goal

pub loop-i-preserved : goal.loop-i-preserved
loop-i-preserved c =
    let i = c.loop-i.i in
    let f = new_entry c.args.files c.args.key in
    let within : i < length c.loop-i.entries = omega arith in
    let more = map-range_with_len_more f 1 i (i + 1) (omega arith) in
    record {
      size = length-set c.loop-i.entries i c.new_entry.result ∙ c.loop-i.invariant.size;
      front = take_more_set c.loop-i.entries i c.new_entry.result within
          ∙ cc (c.loop-i.invariant.front, c.new_entry.ensures, more);
    }
