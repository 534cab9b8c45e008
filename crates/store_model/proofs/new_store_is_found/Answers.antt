use Rattle.store_model.proofs.NewFiles.{new_store_is_found}
use Rattle.store_model.proofs.new_store_is_found.Goals as goal

pub returns : goal.returns
returns v = λ content files blocks key most room few new. new_store_is_found content files blocks key most room few new
