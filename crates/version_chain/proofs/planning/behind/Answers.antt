use Rattle.std.proofs.Common.{◌+◌, ℕ, ap, ◌∙◌}
use Rattle.block_map.specs.States.{held_below}
use Rattle.version_chain.proofs.Written.{behind_held}
use Rattle.version_chain.proofs.planning.behind.Goals as goal

pub returns : goal.returns
returns c =
    ap (λ (n : ℕ). held_below c.args.client c.args.map.now n) (c.at.ensures ∙ ap (λ (n : ℕ). n + 1) c.get.ensures.value)
    ∙ behind_held c.args.map.now c.args.client c.args.block c.requires
