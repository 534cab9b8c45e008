use Rattle.store_model.proofs.NewFiles.{closed_is_refused}
use Rattle.store_model.proofs.closed_is_refused.Goals as goal

pub returns : goal.returns
returns v = λ content most e. closed_is_refused content most e
