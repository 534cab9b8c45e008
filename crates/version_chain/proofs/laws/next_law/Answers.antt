use Rattle.version_chain.proofs.Whole.{writes_next}
use Rattle.version_chain.proofs.laws.next_law.Goals as goal

pub returns : goal.returns
returns c = writes_next
