use Rattle.ground_model.proofs.OpeningSeveral.{cause_of_super, super_has_files}
use Rattle.ground_model.proofs.opening_laws.super_is_opened.Goals as goal

pub returns-clause-cause : goal.returns-clause-cause
returns-clause-cause c = cause_of_super

pub returns-clause-files : goal.returns-clause-files
returns-clause-files c = super_has_files
