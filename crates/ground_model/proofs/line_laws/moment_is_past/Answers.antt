use Rattle.ground_model.proofs.CommitFacts.{moment_is_past}
use Rattle.ground_model.proofs.line_laws.moment_is_past.Goals as goal

pub returns : goal.returns
returns g c = moment_is_past g.B.Blocks
