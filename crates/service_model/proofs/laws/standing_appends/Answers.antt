use Rattle.service_model.proofs.Journals.{after_append}
use Rattle.service_model.proofs.laws.standing_appends.Goals as goal

pub returns : goal.returns
returns c = after_append
