use Rattle.std.proofs.Common.{◌≡◌, ◌↔◌, ◌%◌, [], nat_eq, IsTrue, subst}
use Rattle.pool_draft.specs.Keys.{Key}
use Rattle.pool_draft.proofs.Numbers.{top_told}
use Rattle.pool_draft.proofs.row_key.RowKey.is_top.Goals as goal

pub returns : goal.returns
returns c =
    let F : Key → Type 0 = λ k. IsTrue (nat_eq (c.self.inside.number % 34359738368) 0) ↔ (k.path ≡ []) in
    subst F c.self.view_is (top_told c.self.inside.number c.self.invariant)
