use Rattle.store_model.proofs.Gathering.{committing_appends}
use Rattle.store_model.proofs.committing_appends.Goals as goal

pub returns : goal.returns
returns v = λ c d most store places e next none rw. committing_appends c d most store places e next none rw
