use Rattle.std.proofs.Common.{ap, ◌∙◌}
use Rattle.block_map.specs.States.{held_count}
use Rattle.block_map.proofs.block_map.BlockMap.hold.Goals as goal

pub returns-clause-others : goal.returns-clause-others
returns-clause-others c = λ d ne. c.take_least-self-inside.ensures.others d ne ∙ ap (held_count d) c.self.view_is
