use Rattle.draft_model.proofs.Feeding.{feeds}
use Rattle.draft_model.proofs.laws.feed_law.Goals as goal

pub returns : goal.returns
returns c = feeds
