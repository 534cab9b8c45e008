use Rattle.std.proofs.Common.{refl, ap, ◌∙◌}
use Rattle.block_map.specs.States.{free_count, held_count}
use Rattle.block_map.specs.declared.states.BlockState.TheVariants.{Kept}
use Rattle.block_map.proofs.Marking.{IsSound-keep}
use Rattle.block_map.proofs.Replacing.{free_count-keep, held_count-Replaces, held_count-Replaces-others}
use Rattle.block_map.proofs.block_map.BlockMap.keep.Goals as goal

pub invariant_of-self : goal.invariant_of-self
invariant_of-self c = IsSound-keep _ _ _ _ _ c.replace_held-count.ensures.replaced c.self.invariant

pub returns-clause-free : goal.returns-clause-free
returns-clause-free c = free_count-keep _ _ _ c.replace_held-count.ensures.replaced ∙ ap free_count c.self.view_is

pub returns-clause-held : goal.returns-clause-held
returns-clause-held c = held_count-Replaces _ Kept _ _ c.replace_held-count.ensures.replaced refl

pub returns-clause-others : goal.returns-clause-others
returns-clause-others c = λ d ne.
    held_count-Replaces-others _ d Kept _ _ c.replace_held-count.ensures.replaced refl ne ∙ ap (held_count d) c.self.view_is
