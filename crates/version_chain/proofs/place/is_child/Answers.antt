use Rattle.std.proofs.Common.{◌++◌, ◌∷◌, [], arith, sym, ap, ◌∙◌}
use Rattle.std.specs.Cmp.Lexicographic.{texts_ties}
use Rattle.page_places.specs.Places.{same}
use Rattle.version_chain.proofs.Places.{apart_by_length, length_child}
use Rattle.version_chain.proofs.place.is_child.Goals as goal

pub returns-then-len-clause-value : goal.returns-then-len-clause-value
returns-then-len-clause-value c =
    sym (apart_by_length (c.args.above.now ++ c.args.slot ∷ []) c.args.path.now
    (λ e. c.if-len.true (omega (arith, e, length_child c.args.above.now c.args.slot))))

pub returns-in-Ok-clause-value : goal.returns-in-Ok-clause-value
returns-in-Ok-clause-value c = c.eq.ensures ∙ texts_ties c.in-Ok.child c.args.path.now ∙ ap (λ p. same p c.args.path.now) c.in-Ok.ensures.child
