use Rattle.prune_sweep.proofs.Changing.{sweeping_grows}
use Rattle.prune_sweep.proofs.laws.sweeping_grows.Goals as goal

pub returns : goal.returns
returns c = sweeping_grows
