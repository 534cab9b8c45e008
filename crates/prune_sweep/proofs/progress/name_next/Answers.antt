use Rattle.std.proofs.Common.{length, sym, subst, arith}
use Rattle.prune_sweep.specs.declared.mark.Mark.TheVariants.{Next}
use Rattle.prune_sweep.specs.Naming.{Stays}
use Rattle.prune_sweep.proofs.SlotSteps.{Stays-name, within-some}
use Rattle.prune_sweep.proofs.progress.name_next.Goals as goal

pub returns-in-Some-clause-stays : goal.returns-in-Some-clause-stays
returns-in-Some-clause-stays c =
    subst (Stays c.args.marks.now) (sym c.name.ensures.marks)
    (Stays-name c.args.marks.now c.in-Some.block Next
    (within-some (length c.args.marks.now) c.args.next c.in-Some.block c.requires c.in-Some.is) (omega arith))
