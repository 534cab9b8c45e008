use Rattle.std.proofs.Common.{◌≡◌, ◌&&◌, true, Some, arith, ap, sym, ◌∙◌}
use Rattle.page_places.specs.Places.{has_bit}
use Rattle.tree_model.proofs.Paths.{both_true}
use Rattle.page_merge.proofs.Firsts.{find_none, find_first}
use Rattle.page_merge.proofs.merge.first_shared.Goals as goal

pub returns-then-has_bit-2 : goal.returns-then-has_bit-2
returns-then-has_bit-2 c =
    let both : (has_bit c.args.a c.loop-slot.slot && has_bit c.args.b c.loop-slot.slot) ≡ true = both_true _ _ (sym c.if-has_bit.ensures) (sym c.if-has_bit-2.ensures) in
    ap Some c.at.ensures
    ∙ sym (find_first (λ s. has_bit c.args.a s && has_bit c.args.b s) 16 c.loop-slot.slot c.loop-slot-test.true both c.loop-slot.invariant)

pub returns : goal.returns
returns c = sym (find_none (λ s. has_bit c.args.a s && has_bit c.args.b s) 16 (λ j h. c.loop-slot.invariant j (omega (arith, h))))
