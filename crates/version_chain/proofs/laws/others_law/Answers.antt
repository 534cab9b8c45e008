use Rattle.version_chain.proofs.Whole.{others_write}
use Rattle.version_chain.proofs.laws.others_law.Goals as goal

pub returns : goal.returns
returns c = others_write
