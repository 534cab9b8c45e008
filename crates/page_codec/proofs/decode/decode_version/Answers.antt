-- What the reading gave, against the spelling.
use Rattle.page_codec.proofs.VersionLaws.{version_found, version_only}
use Rattle.page_codec.proofs.decode.decode_version.Goals as goal

pub returns-clause-found : goal.returns-clause-found
returns-clause-found c = version_found c.args.block.now c.read_version.result (record { size = c.told-block; fits = c.fits-block }) c.read_version.ensures

pub returns-clause-only : goal.returns-clause-only
returns-clause-only c = version_only c.args.block.now c.read_version.result c.read_version.ensures
