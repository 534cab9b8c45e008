use Rattle.ground_model.proofs.Turning.{run_recovers}
use Rattle.ground_model.proofs.laws.turns_recover.Goals as goal

pub returns : goal.returns
returns g c = run_recovers g.B.Blocks
