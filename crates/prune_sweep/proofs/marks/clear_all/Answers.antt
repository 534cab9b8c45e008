use Rattle.std.proofs.Common.{◌≡◌, length, ap, ◌∙◌, arith, replicate}
use Rattle.prune_sweep.specs.declared.mark.Mark.TheVariants.{Unseen}
use Rattle.prune_sweep.proofs.MarkLists.{all_unseen}
use Rattle.prune_sweep.proofs.marks.clear_all.Goals as goal

pub returns : goal.returns
returns c =
    let size : length c.loop-mark.marks ≡ length c.args.marks.now = omega arith in
    all_unseen c.loop-mark.marks (λ k h. c.loop-mark.invariant k (omega (arith, h))) ∙ ap (λ n. replicate n Unseen) size
