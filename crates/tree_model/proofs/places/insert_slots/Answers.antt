use Rattle.std.proofs.Common.{refl, ◌∙◌}
use Rattle.tree_model.specs.Trees.{numbers_below}
use Rattle.tree_model.specs.Gathered.{with_place}
use Rattle.tree_model.proofs.Gathering.{slots_more}
use Rattle.tree_model.proofs.places.insert_slots.Goals as goal

pub loop-slot-init : goal.loop-slot-init
unfolding numbers_below
loop-slot-init c = refl

pub loop-slot-preserved : goal.loop-slot-preserved
loop-slot-preserved c =
    c.in_ok-insert.ensures
    ∙ (λ i. with_place (c.loop-slot.invariant i) (c.slot_place.ensures i))
    ∙ slots_more c.args.places.now.items c.args.at.now c.loop-slot.slot
