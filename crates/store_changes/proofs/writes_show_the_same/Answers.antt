use Rattle.store_changes.proofs.Trees.{links_show_the_same, entries_show_the_same}
use Rattle.store_changes.proofs.writes_show_the_same.Goals as goal

pub returns-clause-links : goal.returns-clause-links
returns-clause-links c = links_show_the_same

pub returns-clause-entries : goal.returns-clause-entries
returns-clause-entries c = entries_show_the_same
