use Rattle.ground_model.proofs.OpeningSeveral.{super_answers, super_begins, super_reads}
use Rattle.ground_model.proofs.opening_laws.super_turns_stand.Goals as goal

pub returns-clause-begins : goal.returns-clause-begins
returns-clause-begins g c = λ told. super_begins g.B.Blocks (λ s n f always left. g.met.B.Blocks.settled_left s n f told always left)

pub returns-clause-reads : goal.returns-clause-reads
returns-clause-reads g c = λ told. super_reads g.B.Blocks (λ s n f always left. g.met.B.Blocks.settled_left s n f told always left)

pub returns-clause-answers : goal.returns-clause-answers
returns-clause-answers g c = λ told. super_answers g.B.Blocks (λ s n f always left. g.met.B.Blocks.settled_left s n f told always left)
