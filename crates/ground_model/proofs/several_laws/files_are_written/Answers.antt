use Rattle.ground_model.proofs.SeveralWriting.{done_begins, done_goes_on, done_is_left, done_is_written, done_stays}
use Rattle.ground_model.proofs.several_laws.files_are_written.Goals as goal

pub returns-clause-begins : goal.returns-clause-begins
returns-clause-begins c = done_begins

pub returns-clause-on : goal.returns-clause-on
returns-clause-on c = done_goes_on

pub returns-clause-stays : goal.returns-clause-stays
returns-clause-stays c = done_stays

pub returns-clause-left : goal.returns-clause-left
returns-clause-left c = done_is_left

pub returns-clause-all : goal.returns-clause-all
returns-clause-all c = done_is_written
