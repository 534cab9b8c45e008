use Rattle.std.proofs.Common.{◌+◌, ◌∙◌, ap, refl}
use Rattle.std.specs.List.{slice_get}
use Rattle.std.proofs.lemmas.Option.{get_or_from_slice_get}
use Rattle.block_map.specs.declared.states.BlockState.TheVariants.{Free, Kept}
use Rattle.block_map.specs.States.{free_count, held_count}
use Rattle.block_map.proofs.Marking.{IsSound-free, free_count-free, held_count-set, slice_get-lt}
use Rattle.block_map.proofs.block_map.BlockMap.free_kept.Goals as goal

pub invariant_of-self : goal.invariant_of-self
invariant_of-self c =
    let at = ap (λ xs. slice_get xs c.args.n) c.self.view_is ∙ c.requires.kept in
    let sound = IsSound-free c.self.inside.states.items c.args.n c.self.inside.free c.self.inside.least c.self.invariant
    (slice_get-lt c.self.inside.states.items c.args.n _ at) c.requires.not_table (get_or_from_slice_get c.self.inside.states.items c.args.n Kept Kept at) in
    rw (c.min-self-inside.ensures, c.get-at.ensures.value) sound

pub returns-clause-free : goal.returns-clause-free
returns-clause-free c =
    let at = ap (λ xs. slice_get xs c.args.n) c.self.view_is ∙ c.requires.kept in
    let xs = c.self.inside.states.items in
    rw c.get-at.ensures.value (free_count-free xs c.args.n (slice_get-lt xs c.args.n _ at) (get_or_from_slice_get xs c.args.n Kept Kept at)
    ∙ ap (λ s. free_count s + 1) c.self.view_is)

pub returns-clause-held : goal.returns-clause-held
returns-clause-held c = λ d.
    let at = ap (λ xs. slice_get xs c.args.n) c.self.view_is ∙ c.requires.kept in
    let xs = c.self.inside.states.items in
    rw c.get-at.ensures.value (held_count-set d xs c.args.n Kept Free (slice_get-lt xs c.args.n _ at) (get_or_from_slice_get xs c.args.n Kept Kept at) refl refl
    ∙ ap (held_count d) c.self.view_is)
