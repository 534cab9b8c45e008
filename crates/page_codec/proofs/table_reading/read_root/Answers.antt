-- No cause applies.
use Rattle.std.proofs.Common.{sym}
use Rattle.page_codec.proofs.TableFactLaws.{RootFacts-none}
use Rattle.page_codec.proofs.table_reading.read_root.Goals as goal

pub root_at-requires : goal.root_at-requires
root_at-requires c = RootFacts-none c.args.block.now (sym c.in-None.ensures)
