use Rattle.ground_model.proofs.Seals.{table_tells}
use Rattle.ground_model.proofs.laws.table_tells.Goals as goal

pub returns : goal.returns
returns c = table_tells
