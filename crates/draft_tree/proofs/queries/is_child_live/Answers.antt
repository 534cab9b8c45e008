use Rattle.std.proofs.Common.{refl, sym}
use Rattle.draft_tree.proofs.PageFacts.{short_dead}
use Rattle.draft_tree.proofs.queries.is_child_live.Goals as goal

pub returns-in-Err : goal.returns-in-Err
returns-in-Err g c = sym (short_dead (g.P.PageList.entries c.args.pages.now) c.args.above.now c.args.slot c.requires (c.in-Err.ensures.deep.0 refl))
