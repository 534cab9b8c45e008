use Rattle.prune_sweep.proofs.FoundFiles.{files_may_be_swept, freed_of_found}
use Rattle.prune_sweep.proofs.MaintainedFiles.{kept_may_be_swept, untied_may_be_swept}
use Rattle.prune_sweep.proofs.laws.files_may_be_swept.Goals as goal

pub returns-clause-swept : goal.returns-clause-swept
returns-clause-swept c = files_may_be_swept

pub returns-clause-freed : goal.returns-clause-freed
returns-clause-freed c = freed_of_found

pub returns-clause-kept : goal.returns-clause-kept
returns-clause-kept c = kept_may_be_swept

pub returns-clause-untied : goal.returns-clause-untied
returns-clause-untied c = untied_may_be_swept
