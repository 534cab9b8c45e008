use Rattle.std.proofs.Common.{rules}
use Rattle.version_chain.proofs.Linked.{reads_on}
use Rattle.version_chain.proofs.chain.Chain.feed.Goals as goal

pub returns-in-Some-clause-reads : goal.returns-in-Some-clause-reads
returns-in-Some-clause-reads c = reads_on _ _ _ (search rules) (search rules)
