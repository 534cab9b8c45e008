use Rattle.flush_model.proofs.Flushed.{read_next}
use Rattle.flush_model.proofs.flushed_is_read.Goals as goal

pub returns : goal.returns
returns c = λ content most store places e object last a steps d base plan is. read_next content most store places e object last a steps d base plan is
