use Rattle.ground_model.proofs.HeadsTold.{heads_tell, no_head_tells}
use Rattle.ground_model.proofs.laws.heads_tell.Goals as goal

pub returns-clause-told : goal.returns-clause-told
returns-clause-told c = heads_tell

pub returns-clause-untold : goal.returns-clause-untold
returns-clause-untold c = no_head_tells
