-- Blocks of the store are block numbers.
use Rattle.std.proofs.Common.{◌^◌, ◌≤◌, ap, arith, ◌∙◌}
use Rattle.std.specs.List.{list_any}
use Rattle.page_codec.specs.TableReading.{raw_entries, is_far, is_uncounted, is_stray, block_count}
use Rattle.page_codec.proofs.EntryLaws.{far_within}
use Rattle.page_codec.proofs.table_reading.root_entries.Goals as goal

pub fill_entries-requires-clause-far : goal.fill_entries-requires-clause-far
fill_entries-requires-clause-far c =
    let b = c.args.block.now in
    let one = c.requires.facts.one c.requires.one in
    let most : block_count b ≤ 65536 = c.requires.facts.most in
    ap (list_any (is_far (2 ^ 28))) c.raw_of_root-raws.ensures ∙ far_within (block_count b) (raw_entries 60 b) (omega arith) one.far

pub fill_entries-requires-clause-counted : goal.fill_entries-requires-clause-counted
fill_entries-requires-clause-counted c = ap (list_any is_uncounted) c.raw_of_root-raws.ensures ∙ (c.requires.facts.one c.requires.one).counted

pub fill_entries-requires-clause-stray : goal.fill_entries-requires-clause-stray
fill_entries-requires-clause-stray c = ap (list_any is_stray) c.raw_of_root-raws.ensures ∙ (c.requires.facts.one c.requires.one).stray
