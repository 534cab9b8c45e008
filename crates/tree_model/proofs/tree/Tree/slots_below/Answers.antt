use Rattle.std.proofs.Common.{◌+◌, ap, sym, ◌∙◌, add-one, arith}
use Rattle.tree_model.specs.Trees.{child_bits, numbers_below}
use Rattle.tree_model.proofs.Bits.{bits_none, bits_more, bits_fit}
use Rattle.tree_model.proofs.tree.Tree.slots_below.Goals as goal

pub loop-slot-init : goal.loop-slot-init
loop-slot-init c = sym (bits_none c.args.self.now c.args.at.now)

pub overflow_add-bits : goal.overflow_add-bits
overflow_add-bits c = omega (arith, bits_fit c.args.self.now c.args.at.now c.loop-slot.slot (omega arith), c.loop-slot.invariant, c.bit-bits.ensures)

pub loop-slot-preserved : goal.loop-slot-preserved
loop-slot-preserved c =
    let t = c.args.self.now in
    let p = c.args.at.now in
    (λ i. c.loop-slot.invariant i + c.bit-bits.ensures i)
    ∙ sym (bits_more t p c.loop-slot.slot)
    ∙ ap (λ n. child_bits t p (numbers_below n)) (sym (add-one c.loop-slot.slot))
