-- What the reading gave, against the spelling.
use Rattle.page_codec.proofs.RootLaws.{root_found, root_only}
use Rattle.page_codec.proofs.table_reading.decode_root.Goals as goal

pub returns-clause-found : goal.returns-clause-found
returns-clause-found c = root_found c.args.block.now c.read_root.result (record { size = c.told-block; fits = c.fits-block }) c.read_root.ensures

pub returns-clause-only : goal.returns-clause-only
returns-clause-only c = root_only c.args.block.now c.read_root.result c.read_root.ensures
