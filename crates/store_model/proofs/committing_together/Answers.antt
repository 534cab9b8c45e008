use Rattle.store_model.proofs.Committing.{committing_together}
use Rattle.store_model.proofs.committing_together.Goals as goal

pub returns : goal.returns
returns v = λ c d most store places e next rw. committing_together c d most store places e next rw
