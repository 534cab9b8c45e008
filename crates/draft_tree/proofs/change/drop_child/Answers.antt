use Rattle.draft_tree.proofs.SlotFacts.{sound_without}
use Rattle.draft_tree.proofs.change.drop_child.Goals as goal

pub invariant_of-page : goal.invariant_of-page
invariant_of-page c = sound_without _ _ _ _ c.empty.ensures c.page.invariant
