use Rattle.prune_sweep.proofs.Changing.{sweeping_goes_on}
use Rattle.prune_sweep.proofs.laws.sweeping_goes_on.Goals as goal

pub returns : goal.returns
returns c = sweeping_goes_on
