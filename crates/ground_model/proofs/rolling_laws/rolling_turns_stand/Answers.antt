use Rattle.ground_model.proofs.RollingAnswers.{answer_joins, answer_turn_stands, answered_clearing_stands}
use Rattle.ground_model.proofs.RollingTurns.{clearing_turn_stands, member_turn_stands}
use Rattle.ground_model.proofs.rolling_laws.rolling_turns_stand.Goals as goal

pub returns-clause-member : goal.returns-clause-member
returns-clause-member g c = λ told. member_turn_stands g.B.Blocks (λ s n f always left. g.met.B.Blocks.settled_left s n f told always left)

pub returns-clause-clearing : goal.returns-clause-clearing
returns-clause-clearing g c = λ told. clearing_turn_stands g.B.Blocks (λ s n f always left. g.met.B.Blocks.settled_left s n f told always left)

pub returns-clause-answer : goal.returns-clause-answer
returns-clause-answer g c = λ told. answer_turn_stands g.B.Blocks (λ s n f always left. g.met.B.Blocks.settled_left s n f told always left)

pub returns-clause-both : goal.returns-clause-both
returns-clause-both g c = λ told. answered_clearing_stands g.B.Blocks (λ s n f always left. g.met.B.Blocks.settled_left s n f told always left)

pub returns-clause-joins : goal.returns-clause-joins
returns-clause-joins g c = λ told. answer_joins g.B.Blocks (λ s n f always left. g.met.B.Blocks.settled_left s n f told always left)
