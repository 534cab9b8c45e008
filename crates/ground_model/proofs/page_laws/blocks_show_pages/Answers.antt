use Rattle.ground_model.proofs.Shows.{base_shows, needed_shows, version_shows, wanted_shows}
use Rattle.ground_model.proofs.page_laws.blocks_show_pages.Goals as goal

pub returns-clause-version : goal.returns-clause-version
returns-clause-version c = version_shows

pub returns-clause-base : goal.returns-clause-base
returns-clause-base c = base_shows

pub returns-clause-wanted : goal.returns-clause-wanted
returns-clause-wanted c = wanted_shows

pub returns-clause-needed : goal.returns-clause-needed
returns-clause-needed c = needed_shows
