use Rattle.std.proofs.Common.{arith}
use Rattle.draft_model.proofs.Telling.{marked_any}
use Rattle.draft_tree.proofs.marks.has_any.Goals as goal

pub returns : goal.returns
returns c = marked_any c.args.mask (omega (arith, c.ranges.mask))
