use Rattle.pool_draft.proofs.Begun.{begun_alone}
use Rattle.pool_draft.proofs.laws.begun_law.Goals as goal

pub returns : goal.returns
returns c s t u at version none count fed added picked same =
    begun_alone s t u at version none count fed added picked same
