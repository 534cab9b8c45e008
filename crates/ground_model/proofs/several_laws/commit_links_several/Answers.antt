use Rattle.ground_model.proofs.SeveralCommit.{commit_links_several}
use Rattle.ground_model.proofs.SeveralNotes.{several_are_last}
use Rattle.ground_model.proofs.SeveralTurns.{held_are_apart}
use Rattle.ground_model.proofs.several_laws.commit_links_several.Goals as goal

pub returns-clause-links : goal.returns-clause-links
returns-clause-links c = commit_links_several

pub returns-clause-last : goal.returns-clause-last
returns-clause-last c = several_are_last

pub returns-clause-apart : goal.returns-clause-apart
returns-clause-apart c = held_are_apart
