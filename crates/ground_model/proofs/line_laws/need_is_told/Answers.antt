use Rattle.ground_model.proofs.CommitFacts.{merged_need_is_told, need_is_told, need_of_one}
use Rattle.ground_model.proofs.line_laws.need_is_told.Goals as goal

pub returns-clause-one : goal.returns-clause-one
returns-clause-one c = need_of_one

pub returns-clause-draft : goal.returns-clause-draft
returns-clause-draft c = need_is_told

pub returns-clause-merged : goal.returns-clause-merged
returns-clause-merged c = merged_need_is_told
