use Rattle.store_changes.proofs.TableEntries.{tables_hold_entries}
use Rattle.store_changes.proofs.tables_hold_entries.Goals as goal

pub returns : goal.returns
returns c = tables_hold_entries
