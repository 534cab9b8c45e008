use Rattle.store_model.proofs.LastLinks.{members_are_last}
use Rattle.store_model.proofs.members_are_last.Goals as goal

pub returns : goal.returns
returns v = λ content most store places e version top k member listed. members_are_last content most store places e version top k member listed
