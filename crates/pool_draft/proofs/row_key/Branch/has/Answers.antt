use Rattle.std.proofs.Common.{◌∙◌}
use Rattle.afs_base.specs.Path.{is_prefix}
use Rattle.pool_draft.specs.Keys.{key_list}
use Rattle.pool_draft.proofs.Numbers.{has_told, has_none}
use Rattle.pool_draft.proofs.row_key.Branch.has.Goals as goal

pub returns-then-key-self : goal.returns-then-key-self
returns-then-key-self c =
    has_none c.self.inside.first c.key.inside.number c.self.invariant.0 c.key.invariant c.if-key-self.true
    ∙ (λ i. is_prefix (key_list (c.self.view_is i)) (key_list (c.key.view_is i)))

pub returns : goal.returns
returns c =
    has_told c.self.inside.first c.key.inside.number c.self.inside.width c.self.invariant.0 c.key.invariant c.self.invariant.1 c.if-key-self.false
    ∙ (λ i. is_prefix (key_list (c.self.view_is i)) (key_list (c.key.view_is i)))
