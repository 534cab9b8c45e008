use Rattle.ground_model.proofs.CommitFacts.{merged_writes_are_told, writes_are_told}
use Rattle.ground_model.proofs.line_laws.writes_are_told.Goals as goal

pub returns-clause-draft : goal.returns-clause-draft
returns-clause-draft c = writes_are_told

pub returns-clause-merged : goal.returns-clause-merged
returns-clause-merged c = merged_writes_are_told
