-- No cause applies.
use Rattle.std.proofs.Common.{sym}
use Rattle.page_codec.proofs.TableFactLaws.{PartFacts-none}
use Rattle.page_codec.proofs.table_reading.read_part.Goals as goal

pub part_at-requires-clause-facts : goal.part_at-requires-clause-facts
part_at-requires-clause-facts c = PartFacts-none c.args.j c.args.block.now (sym c.in-None.ensures)
