use Rattle.std.proofs.Common.{◌∙◌}
use Rattle.draft_tree.proofs.Fresh.{touched_from}
use Rattle.draft_tree.proofs.pages.Pages.touches.Goals as goal

pub returns : goal.returns
returns c = c.touches_from.ensures.value ∙ touched_from c.args.at.now c.args.self.now c.touches_from.ensures.ordered
