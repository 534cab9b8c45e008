use Rattle.prune_sweep.proofs.Finding.{knows_reached}
use Rattle.prune_sweep.proofs.sweep.Sweep.upto_block.Goals as goal

pub returns-clause-names : goal.returns-clause-names
returns-clause-names c = knows_reached c.args.self.now.known
