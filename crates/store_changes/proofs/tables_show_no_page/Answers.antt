use Rattle.store_changes.proofs.Shown.{tables_show_no_page, parts_show_no_page}
use Rattle.store_changes.proofs.tables_show_no_page.Goals as goal

pub returns-clause-root : goal.returns-clause-root
returns-clause-root c = tables_show_no_page

pub returns-clause-part : goal.returns-clause-part
returns-clause-part c = parts_show_no_page
