use Rattle.store_model.proofs.FoundStates.{versions_have_pages, lasts_name_none}
use Rattle.store_model.proofs.versions_have_pages.Goals as goal

pub returns-clause-pages : goal.returns-clause-pages
returns-clause-pages c = λ content most store places e version is. versions_have_pages content most store places e version is

pub returns-clause-last : goal.returns-clause-last
returns-clause-last c = λ content most store places e object file version listed is. lasts_name_none content most store places e object file version listed is
