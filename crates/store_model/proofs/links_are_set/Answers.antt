use Rattle.store_model.proofs.LastLinks.{links_are_set}
use Rattle.store_model.proofs.links_are_set.Goals as goal

pub returns : goal.returns
returns v = λ content most store places e object file listed. links_are_set content most store places e object file listed
