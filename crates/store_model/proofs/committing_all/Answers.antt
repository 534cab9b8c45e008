use Rattle.store_model.proofs.Gathering.{committing_all}
use Rattle.store_model.proofs.committing_all.Goals as goal

pub returns : goal.returns
returns v = λ c d most store places e next news are tried rw. committing_all c d most store places e next news are tried rw
