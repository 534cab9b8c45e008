use Rattle.draft_model.proofs.Telling.{tells_masks}
use Rattle.draft_model.proofs.laws.mask_law.Goals as goal

pub returns : goal.returns
returns c = tells_masks
