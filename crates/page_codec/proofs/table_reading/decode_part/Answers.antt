-- What the reading gave, against the spelling.
use Rattle.page_codec.proofs.PartLaws.{part_found, part_only}
use Rattle.page_codec.proofs.table_reading.decode_part.Goals as goal

pub returns-clause-found : goal.returns-clause-found
returns-clause-found c = part_found c.args.j c.args.block.now c.read_part.result (record { size = c.told-block; fits = c.fits-block }) c.read_part.ensures

pub returns-clause-only : goal.returns-clause-only
returns-clause-only c = part_only c.args.j c.args.block.now c.read_part.result c.read_part.ensures
