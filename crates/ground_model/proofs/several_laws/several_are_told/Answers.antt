use Rattle.ground_model.proofs.SeveralFacts.{draft_flags, draft_pages, flags_tell, need_is_placed, need_of_several, places_of_draft, renewed_are_numbered}
use Rattle.ground_model.proofs.several_laws.several_are_told.Goals as goal

pub returns-clause-draft : goal.returns-clause-draft
returns-clause-draft c = draft_flags

pub returns-clause-flags : goal.returns-clause-flags
returns-clause-flags c = flags_tell

pub returns-clause-numbers : goal.returns-clause-numbers
returns-clause-numbers c = renewed_are_numbered

pub returns-clause-pages : goal.returns-clause-pages
returns-clause-pages c = draft_pages

pub returns-clause-places : goal.returns-clause-places
returns-clause-places c = places_of_draft

pub returns-clause-need : goal.returns-clause-need
returns-clause-need c = need_of_several

pub returns-clause-placed : goal.returns-clause-placed
returns-clause-placed c = need_is_placed
