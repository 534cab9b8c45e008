use Rattle.ground_model.proofs.Drafting.{begins_draft, draft_stays_own, fed_draft, stepped_draft, wanted_lies}
use Rattle.ground_model.proofs.laws.drafts_go_on.Goals as goal

pub returns-clause-begins : goal.returns-clause-begins
returns-clause-begins c = begins_draft

pub returns-clause-wanted : goal.returns-clause-wanted
returns-clause-wanted c = wanted_lies

pub returns-clause-fed : goal.returns-clause-fed
returns-clause-fed c = fed_draft

pub returns-clause-stepped : goal.returns-clause-stepped
returns-clause-stepped c = stepped_draft

pub returns-clause-stays : goal.returns-clause-stays
returns-clause-stays c = draft_stays_own
