use Rattle.ground_model.proofs.Walking.{walk_carries, walk_starts, walk_stays, walks_may_begin}
use Rattle.ground_model.proofs.laws.walks_go_on.Goals as goal

pub returns-clause-begins : goal.returns-clause-begins
returns-clause-begins c = walks_may_begin

pub returns-clause-starts : goal.returns-clause-starts
returns-clause-starts c = walk_starts

pub returns-clause-stays : goal.returns-clause-stays
returns-clause-stays c = walk_stays

pub returns-clause-carries : goal.returns-clause-carries
returns-clause-carries c = walk_carries
