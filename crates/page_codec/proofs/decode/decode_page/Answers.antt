-- What the reading gave, against the spelling.
use Rattle.page_codec.proofs.PageLaws.{page_found, page_only}
use Rattle.page_codec.proofs.decode.decode_page.Goals as goal

pub returns-clause-found : goal.returns-clause-found
returns-clause-found c = page_found c.args.block.now c.read_page.result (record { size = c.told-block; fits = c.fits-block }) c.read_page.ensures

pub returns-clause-only : goal.returns-clause-only
returns-clause-only c = page_only c.args.block.now c.read_page.result c.read_page.ensures
