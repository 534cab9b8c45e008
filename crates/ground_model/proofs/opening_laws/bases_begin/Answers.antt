use Rattle.ground_model.proofs.OpeningSeveral.{base_begins_draft, work_begins}
use Rattle.ground_model.proofs.opening_laws.bases_begin.Goals as goal

pub returns-clause-work : goal.returns-clause-work
returns-clause-work c = work_begins

pub returns-clause-draft : goal.returns-clause-draft
returns-clause-draft c = base_begins_draft
