use Rattle.version_chain.proofs.Whole.{whole}
use Rattle.version_chain.proofs.laws.whole_law.Goals as goal

pub returns : goal.returns
returns c = whole
