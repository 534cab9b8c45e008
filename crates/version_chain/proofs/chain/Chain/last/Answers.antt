use Rattle.std.proofs.Common.{rules}
use Rattle.version_chain.proofs.Linked.{ends}
use Rattle.version_chain.proofs.chain.Chain.last.Goals as goal

pub returns-clause-ends : goal.returns-clause-ends
returns-clause-ends c = ends c.args.self.now c.self.inside.last (search rules)
