use Rattle.std.proofs.Common.{◌≡◌, ◌≤◌, ◌*◌, set, sym, ap, subst, ◌∙◌}
use Rattle.std.specs.Prelude.{replicate}
use Rattle.prune_sweep.specs.declared.mark.Mark.TheVariants.{Unseen, Next}
use Rattle.prune_sweep.specs.Marks.{left_of}
use Rattle.prune_sweep.proofs.Feeding.{start_left}
use Rattle.prune_sweep.proofs.sweep.Sweep.start_in.Goals as goal

pub returns-clause-most : goal.returns-clause-most
returns-clause-most c =
    let marks : c.set.new.self ≡ set (replicate c.args.room Unseen) c.args.first Next =
    c.set.ensures ∙ ap (λ m. set m c.args.first Next) (c.clear.ensures ∙ ap (λ n. replicate n Unseen) c.room.view_is) in
    subst (λ m. left_of m ≤ 2 * c.args.room) (sym marks) (start_left c.args.room c.args.first c.requires.below)
