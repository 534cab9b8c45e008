-- The entries, or the parts, and the zeros behind them fill the block.
use Rattle.std.proofs.Common.{◌≡◌, length, arith}
use Rattle.std.specs.List.{flat_map}
use Rattle.page_codec.specs.TableSpelling.{entry_bytes, part_number_bytes, rest_bytes}
use Rattle.page_codec.proofs.TableLaws.{rest_of_one, rest_of_two, rest_written}
use Rattle.page_codec.proofs.table_bytes.put_rest.Goals as goal

pub returns-then-format-eq1-clause-whole : goal.returns-then-format-eq1-clause-whole
returns-then-format-eq1-clause-whole c =
    let sixty : length c.args.first.now ≡ 60 = c.requires.sixty c.if-format-eq1.true in
    let end : c.put_zeros.result ≡ 1024 = omega (arith, sixty) in
    rest_written c.args.block.now c.put_entries-next.new.block c.put_zeros.new.block (flat_map entry_bytes c.args.first.now) (rest_bytes c.args.format c.args.parts.now c.args.first.now)
    c.args.at c.put_entries-next.result c.put_zeros.result 48 end c.put_entries-next.ensures.front c.put_zeros.ensures.front (rest_of_one c.args.format c.args.parts.now c.args.first.now c.if-format-eq1.true)

pub returns-else-format-eq1-clause-whole : goal.returns-else-format-eq1-clause-whole
returns-else-format-eq1-clause-whole c =
    let end : c.put_zeros-else-format-eq1.result ≡ 1024 = omega arith in
    rest_written c.args.block.now c.put_parts-next.new.block c.put_zeros-else-format-eq1.new.block (flat_map part_number_bytes c.args.parts.now) (rest_bytes c.args.format c.args.parts.now c.args.first.now)
    c.args.at c.put_parts-next.result c.put_zeros-else-format-eq1.result 752 end c.put_parts-next.ensures.front c.put_zeros-else-format-eq1.ensures.front
    (rest_of_two c.args.format c.args.parts.now c.args.first.now c.if-format-eq1.false)
