-- No cause applies.
use Rattle.std.proofs.Common.{sym}
use Rattle.page_codec.proofs.FactLaws.{VersionFacts-none}
use Rattle.page_codec.proofs.decode.read_version.Goals as goal

pub version_at-requires-clause-facts : goal.version_at-requires-clause-facts
version_at-requires-clause-facts c = VersionFacts-none c.args.block.now (sym c.in-None.ensures)
