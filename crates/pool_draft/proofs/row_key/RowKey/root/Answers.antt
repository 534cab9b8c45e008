use Rattle.std.proofs.Common.{ap, ◌∙◌, arith}
use Rattle.pool_draft.specs.Keys.{Key}
use Rattle.pool_draft.proofs.Numbers.{root_fits, root_told}
use Rattle.pool_draft.proofs.row_key.RowKey.root.Goals as goal

pub overflow_cast-result : goal.overflow_cast-result
overflow_cast-result c = omega (arith, root_fits c.self.inside.number c.self.invariant)

pub returns : goal.returns
returns c = root_told c.self.inside.number ∙ ap (λ (k : Key). k.root) c.self.view_is
