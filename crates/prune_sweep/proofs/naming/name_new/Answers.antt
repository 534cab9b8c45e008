use Rattle.std.proofs.Common.{◌≡◌, ◌+◌, ◌∷◌, drop, cond, set, sym, ap, subst, ◌∙◌, arith}
use Rattle.prune_sweep.specs.declared.mark.Mark.TheVariants.{Wanted}
use Rattle.prune_sweep.proofs.MarkLists.{drop-item}
use Rattle.prune_sweep.proofs.SlotSteps.{NamesOn, NamesOn-none, NamesOn-new}
use Rattle.prune_sweep.proofs.naming.name_new.Goals as goal
use Rattle.prune_sweep.proofs.naming.name_new.Goals.{in-Some+else-not-name, in_default}

pub slots-preserved : goal.slots-preserved
slots-preserved c =
    let refs = c.args.refs.now in
    let left = drop (c.slots.reference-index + 1) refs in
    let here : drop c.slots.reference-index refs ≡ c.reference-item.result ∷ left =
    drop-item refs c.slots.reference-index c.reference-item.result (omega arith) c.reference-item.is in
    let so_far : NamesOn c.args.following c.args.level refs (c.reference-item.result ∷ left) c.args.marks.now c.slots.marks =
    subst (λ l. NamesOn c.args.following c.args.level refs l c.args.marks.now c.slots.marks) here c.slots.invariant in
    elim c.match-new_block.branch [
      | in-Some+else-not-name w ↦
          let marks : c.match-new_block.marks ≡ set c.slots.marks w.in-Some.block (Wanted c.args.level) =
          w.marks-is ∙ w.name.ensures.marks ∙ ap (λ b. cond b (set c.slots.marks w.in-Some.block (Wanted c.args.level)) c.slots.marks) (sym w.if-not-name.ensures.new) in
          subst (NamesOn c.args.following c.args.level refs left c.args.marks.now) (sym marks)
          (NamesOn-new c.args.following c.args.level refs c.reference-item.result left c.args.marks.now c.slots.marks w.in-Some.block so_far
          (sym c.new_block.ensures ∙ w.in-Some.is) (sym w.if-not-name.ensures.new))
      | in_default w ↦
          subst (NamesOn c.args.following c.args.level refs left c.args.marks.now) (sym w.marks-is)
          (NamesOn-none c.args.following c.args.level refs c.reference-item.result left c.args.marks.now c.slots.marks so_far (sym c.new_block.ensures ∙ w.in_default.is))
    ]
