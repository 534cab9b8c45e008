use Rattle.service_model.proofs.Following.{do_alike}
use Rattle.service_model.proofs.laws.unclashed_do_alike.Goals as goal

pub returns : goal.returns
returns c = do_alike
