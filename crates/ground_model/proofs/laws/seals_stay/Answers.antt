use Rattle.ground_model.proofs.SealsStay.{seals_stay, table_goes_on}
use Rattle.ground_model.proofs.laws.seals_stay.Goals as goal

pub returns-clause-seals : goal.returns-clause-seals
returns-clause-seals c = seals_stay

pub returns-clause-table : goal.returns-clause-table
returns-clause-table c = table_goes_on
