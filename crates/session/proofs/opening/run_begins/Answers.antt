use Rattle.session.proofs.Beginning.{opened_run_begins}
use Rattle.session.proofs.opening.run_begins.Goals as goal

pub returns : goal.returns
returns g c = λ told. opened_run_begins _
