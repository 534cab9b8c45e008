use Rattle.store_model.proofs.Locality.{laid_alike}
use Rattle.store_model.proofs.places_decide.Goals as goal

pub returns : goal.returns
returns c = λ one other most store places e agree. laid_alike one other most store places e agree.table agree.others
