use Rattle.std.proofs.Common.{sym, refl, arith}
use Rattle.pool_draft.proofs.Looks.{held_empty, held_as}
use Rattle.pool_draft.proofs.frame_pages.FramePages.over.Goals as goal

pub invariant_of-result : goal.invariant_of-result
invariant_of-result c =
    held_as _ _ refl (sym c.clear.ensures.items) refl refl
    (held_empty c.args.pool c.args.lease.run c.args.root c.requires (omega (arith, c.left-left.ensures.left, c.left-left.ensures.most)))
