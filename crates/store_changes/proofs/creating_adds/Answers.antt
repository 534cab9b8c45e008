use Rattle.store_changes.proofs.Creating.{creating_adds, creating_adds_part}
use Rattle.store_changes.proofs.creating_adds.Goals as goal

pub returns-clause-here : goal.returns-clause-here
returns-clause-here c = creating_adds

pub returns-clause-part : goal.returns-clause-part
returns-clause-part c = creating_adds_part
