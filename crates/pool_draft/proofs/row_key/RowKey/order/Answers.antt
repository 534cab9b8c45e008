use Rattle.std.proofs.Common.{◌∙◌}
use Rattle.afs_base.specs.Path.{path_cmp}
use Rattle.pool_draft.specs.Keys.{key_list}
use Rattle.pool_draft.proofs.Numbers.{numbers_order}
use Rattle.pool_draft.proofs.row_key.RowKey.order.Goals as goal

pub returns : goal.returns
returns c =
    c.cmp.ensures
    ∙ numbers_order c.self.inside.number c.other.inside.number c.self.invariant c.other.invariant
    ∙ (λ i. path_cmp (key_list (c.self.view_is i)) (key_list (c.other.view_is i)))
