use Rattle.std.proofs.Common.{◌||◌, ap, ◌∙◌}
use Rattle.std.specs.List.{list_any}
use Rattle.ref_flags.specs.Flagged.{Flagged}
use Rattle.tree_model.specs.Trees.{every_slot}
use Rattle.page_places.specs.Places.{has_bit}
use Rattle.joint_walk.proofs.Slots.{accessed_by}
use Rattle.joint_walk.proofs.job.is_accessed.Goals as goal

pub returns : goal.returns
returns g c =
    (λ i. ((c.read.ensures ∙ ap (λ (f : Flagged). f.read) c.flags-flags.ensures.value) i || (c.written.ensures ∙ ap (λ (f : Flagged). f.written) c.flags-flags.ensures.value) i)
    || ((c.has_any.ensures ∙ ap (λ m. list_any (has_bit m) every_slot) c.slots-slots.ensures.searched) i
    || (c.has_any-2.ensures ∙ ap (λ m. list_any (has_bit m) every_slot) c.slots-slots.ensures.modified) i))
    ∙ accessed_by (g.D.Draft.view c.args.draft.now c.args.at.now)
