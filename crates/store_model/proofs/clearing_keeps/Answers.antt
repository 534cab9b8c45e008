use Rattle.store_model.proofs.Clearing.{clearing_keeps}
use Rattle.store_model.proofs.clearing_keeps.Goals as goal

pub returns : goal.returns
returns v = λ c d most store places e version top linked rw. clearing_keeps c d most store places e version top linked rw
