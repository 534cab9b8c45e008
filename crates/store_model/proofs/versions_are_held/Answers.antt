use Rattle.store_model.proofs.Held.{versions_are_held}
use Rattle.store_model.proofs.versions_are_held.Goals as goal

pub returns : goal.returns
returns c = λ content most store places e version is. versions_are_held content most store places e version is
