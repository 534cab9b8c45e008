use Rattle.std.proofs.Common.{◌≡◌, ◌+◌, refl, ap, ◌∙◌}
use Rattle.block_map.specs.States.{free_count, held_count, held_below}
use Rattle.block_map.specs.declared.states.BlockState.TheVariants.{Free}
use Rattle.block_map.proofs.Marking.{IsSound-give_back}
use Rattle.block_map.proofs.Replacing.{free_count-give_back, held_count-Replaces, held_count-Replaces-others}
use Rattle.block_map.proofs.block_map.BlockMap.give_back.Goals as goal

pub invariant_of-self : goal.invariant_of-self
invariant_of-self c =
    let none : held_below c.args.client c.self.inside.states.items c.first_held-first.result ≡ 0 = cc in
    rw c.min-self-inside.ensures (IsSound-give_back _ _ _ _ _ _ _ c.replace_held-count.ensures.replaced c.self.invariant none
    c.replace_held-count.ensures.count)

pub returns-clause-free : goal.returns-clause-free
returns-clause-free c =
    free_count-give_back _ _ _ c.replace_held-count.ensures.replaced
    ∙ ap (λ s. free_count s + held_count c.args.client s) c.self.view_is

pub returns-clause-held : goal.returns-clause-held
returns-clause-held c = held_count-Replaces _ Free _ _ c.replace_held-count.ensures.replaced refl

pub returns-clause-others : goal.returns-clause-others
returns-clause-others c = λ d ne.
    held_count-Replaces-others _ d Free _ _ c.replace_held-count.ensures.replaced refl ne ∙ ap (held_count d) c.self.view_is
