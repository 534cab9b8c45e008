use Rattle.draft_model.proofs.Accessing.{fed_accessed}
use Rattle.draft_model.proofs.laws.feed_access_law.Goals as goal

pub returns : goal.returns
returns c = fed_accessed
