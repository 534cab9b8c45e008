use Rattle.pool_draft.proofs.Others.{others_stay}
use Rattle.pool_draft.proofs.laws.others_law.Goals as goal

pub returns : goal.returns
returns c = others_stay
