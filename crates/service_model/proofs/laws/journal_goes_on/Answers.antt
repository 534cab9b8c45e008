use Rattle.service_model.proofs.Journals.{reaches_more}
use Rattle.service_model.proofs.laws.journal_goes_on.Goals as goal

pub returns : goal.returns
returns c = reaches_more
