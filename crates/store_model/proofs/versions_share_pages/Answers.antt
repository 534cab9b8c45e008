use Rattle.store_model.proofs.FoundStates.{versions_share_pages}
use Rattle.store_model.proofs.versions_share_pages.Goals as goal

pub returns : goal.returns
returns c =
    λ content most store places e object file place before version listed p q.
    versions_share_pages content most store places e object file place before version listed p q
