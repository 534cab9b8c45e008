-- No cause applies.
use Rattle.std.proofs.Common.{sym}
use Rattle.page_codec.proofs.FactLaws.{PageFacts-none}
use Rattle.page_codec.proofs.decode.read_page.Goals as goal

pub frame_at-requires-clause-facts : goal.frame_at-requires-clause-facts
frame_at-requires-clause-facts c = (PageFacts-none c.args.block.now (sym c.in-None.ensures)).frame
