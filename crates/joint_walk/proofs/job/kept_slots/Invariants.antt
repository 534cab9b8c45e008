use Rattle.std.proofs.Common.{◌≡◌, ℕ, ◌&&◌, nat_lt, [], ◌∷◌, ◌++◌, length}
use Rattle.page_places.specs.Places.{has_bit}
use Rattle.draft_model.specs.Views.{copies, live}
use Rattle.joint_walk.proofs.job.kept_slots.Given as goal

abbrev pub invariant-loop-number : goal.invariant-loop-number
invariant-loop-number g l =
    (k : ℕ) → has_bit l.kept k ≡ (nat_lt k l.number && (nat_lt (length l.at) 7 && live (copies (g.D.Draft.view l.draft)) (l.at ++ k ∷ [])))
