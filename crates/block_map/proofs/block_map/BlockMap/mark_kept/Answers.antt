use Rattle.std.proofs.Common.{◌∙◌, ap, refl}
use Rattle.std.specs.List.{slice_get}
use Rattle.std.proofs.lemmas.Option.{get_or_from_slice_get}
use Rattle.block_map.specs.declared.states.BlockState.TheVariants.{Free, Kept}
use Rattle.block_map.specs.States.{free_count, held_count}
use Rattle.block_map.proofs.Marking.{IsSound-mark, free-positive, free_count-mark, held_count-set, slice_get-lt}
use Rattle.block_map.proofs.block_map.BlockMap.mark_kept.Goals as goal

pub overflow_sub-self : goal.overflow_sub-self
overflow_sub-self c =
    let at = ap (λ xs. slice_get xs c.args.n) c.self.view_is ∙ c.requires in
    free-positive c.self.inside.states.items c.args.n c.self.inside.free c.self.inside.least c.self.invariant
    (slice_get-lt c.self.inside.states.items c.args.n _ at) (get_or_from_slice_get c.self.inside.states.items c.args.n Free Kept at)

pub invariant_of-self : goal.invariant_of-self
invariant_of-self c =
    let at = ap (λ xs. slice_get xs c.args.n) c.self.view_is ∙ c.requires in
    rw c.get.ensures.value (IsSound-mark c.self.inside.states.items c.args.n c.self.inside.free c.self.inside.least c.self.invariant
    (slice_get-lt c.self.inside.states.items c.args.n _ at) (get_or_from_slice_get c.self.inside.states.items c.args.n Free Kept at))

pub returns-clause-free : goal.returns-clause-free
returns-clause-free c =
    let at = ap (λ xs. slice_get xs c.args.n) c.self.view_is ∙ c.requires in
    let xs = c.self.inside.states.items in
    rw c.get.ensures.value (free_count-mark xs c.args.n (slice_get-lt xs c.args.n _ at) (get_or_from_slice_get xs c.args.n Free Kept at)
    ∙ ap free_count c.self.view_is)

pub returns-clause-held : goal.returns-clause-held
returns-clause-held c = λ d.
    let at = ap (λ xs. slice_get xs c.args.n) c.self.view_is ∙ c.requires in
    let xs = c.self.inside.states.items in
    rw c.get.ensures.value (held_count-set d xs c.args.n Free Kept (slice_get-lt xs c.args.n _ at) (get_or_from_slice_get xs c.args.n Free Kept at) refl refl
    ∙ ap (held_count d) c.self.view_is)
