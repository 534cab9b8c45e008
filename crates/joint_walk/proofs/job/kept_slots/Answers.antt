use Rattle.std.proofs.Common.{ℕ, ◌&&◌, ◌||◌, nat_eq, nat_lt, [], ◌∷◌, ◌++◌, length, ap, ◌∙◌}
use Rattle.page_places.specs.Places.{has_bit}
use Rattle.draft_model.specs.Views.{copies, live}
use Rattle.draft_model.proofs.Marks.{modified_more}
use Rattle.joint_walk.proofs.Slots.{more_kept}
use Rattle.joint_walk.proofs.job.kept_slots.Goals as goal

pub loop-number-preserved : goal.loop-number-preserved
loop-number-preserved g c k =
    let L = λ (s : ℕ). nat_lt (length c.args.at.now) 7 && live (copies (g.D.Draft.view c.args.draft.now)) (c.args.at.now ++ s ∷ []) in
    let n = c.loop-number.number in
    ap (λ m. has_bit m k) c.with_slot-kept.ensures
    ∙ modified_more c.is_child_live-live.result c.loop-number.kept n k
    ∙ (λ i. c.loop-number.invariant k i || ((c.is_child_live-live.ensures ∙ ap L c.at.ensures) i && nat_eq k n))
    ∙ more_kept L n k
