use Rattle.std.proofs.Common.{◌+◌, ap, sym, ◌∙◌, add-one, arith}
use Rattle.draft_model.specs.Views.{copies}
use Rattle.draft_model.specs.Entries.{shown}
use Rattle.draft_tree.proofs.Stepping.{bits_below, bits_none, bits_more, bits_fit}
use Rattle.draft_tree.proofs.steps.child_bits.Goals as goal

pub loop-slot-init : goal.loop-slot-init
loop-slot-init g c = sym (bits_none (copies (shown (g.P.PageList.entries c.args.pages.now))) c.args.at.now)

pub overflow_add-bits : goal.overflow_add-bits
overflow_add-bits g c =
    omega (arith, bits_fit (copies (shown (g.P.PageList.entries c.args.pages.now))) c.args.at.now c.loop-slot.slot (omega arith), c.loop-slot.invariant, c.bit-bits.ensures)

pub loop-slot-preserved : goal.loop-slot-preserved
loop-slot-preserved g c =
    let h = copies (shown (g.P.PageList.entries c.args.pages.now)) in
    let p = c.args.at.now in
    (λ i. c.loop-slot.invariant i + c.bit-bits.ensures i)
    ∙ sym (bits_more h p c.loop-slot.slot)
    ∙ ap (bits_below h p) (sym (add-one c.loop-slot.slot))
