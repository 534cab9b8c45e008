use Rattle.std.proofs.Common.{◌+◌, ◌<◌, length, arith, ◌∙◌}
use Rattle.std.proofs.lemmas.List.{take_more_set, length-set}
use Rattle.std.proofs.lemmas.List.FromFn.{map-range_with_len_more}
use Rattle.page_codec.specs.NewStore.{new_entry}
use Rattle.new_store.proofs.table.fill_entries.Goals as goal

pub loop-i-preserved : goal.loop-i-preserved
loop-i-preserved c =
    let i = c.loop-i.i in
    let f = new_entry c.args.store.now.files c.args.store.now.key in
    let within : i < length c.loop-i.entries = omega arith in
    let more = map-range_with_len_more f c.args.object i (c.args.object + i) (omega arith) in
    record {
      size = length-set c.loop-i.entries i c.new_entry.result ∙ c.loop-i.invariant.size;
      front = take_more_set c.loop-i.entries i c.new_entry.result within
          ∙ cc (c.loop-i.invariant.front, c.new_entry.ensures, more);
    }
