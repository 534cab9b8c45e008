use Rattle.std.proofs.Common.{ℕ, List, length, ap, ◌∙◌}
use Rattle.std.specs.Prelude.{max}
use Rattle.draft_model.specs.Entries.{fresh_paths}
use Rattle.pool_draft.specs.Held.{picked_tree}
use Rattle.joint_flush.proofs.Fresh.{picked_paths, written_count}
use Rattle.joint_flush.proofs.planning.pages_of.Goals as goal

pub returns-clause-value : goal.returns-clause-value
returns-clause-value c =
    c.max.ensures
    ∙ ap (λ (n : ℕ). max n 1) c.fresh_count.ensures.count
    ∙ written_count (fresh_paths (picked_tree c.pick.new.self.pages))
    ∙ ap (λ (ps : List (List ℕ)). length ps) (picked_paths c.args.set.now c.pick.new.self c.args.number c.pick.ensures.same c.pick.ensures.picked c.requires)
