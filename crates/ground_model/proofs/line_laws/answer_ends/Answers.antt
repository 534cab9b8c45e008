use Rattle.ground_model.proofs.Noted.{answer_ends}
use Rattle.ground_model.proofs.line_laws.answer_ends.Goals as goal

pub returns : goal.returns
returns c = answer_ends
