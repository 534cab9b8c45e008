use Rattle.store_model.proofs.SettingLinks.{linking_keeps}
use Rattle.store_model.proofs.linking_keeps.Goals as goal

pub returns : goal.returns
returns v = λ c d most store places e link rw. linking_keeps c d most store places e link rw
