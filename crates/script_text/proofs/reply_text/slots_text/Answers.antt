use Rattle.std.proofs.Common.{ap, ◌∙◌, codes}
use Rattle.std.specs.String.{string_bytes}
use Rattle.script_text.proofs.SlotLemmas.{slots_more, slots_same}
use Rattle.script_text.proofs.reply_text.slots_text.Goals as goal
use Rattle.script_text.proofs.reply_text.slots_text.Goals.{then-mask-slot-eq1+in_ok-write, else-mask-slot-eq1}

pub loop-slot-preserved : goal.loop-slot-preserved
loop-slot-preserved c = elim c.if-mask-slot-eq1.branch [
  | then-mask-slot-eq1+in_ok-write w ↦
      slots_more c.args.mask c.loop-slot.slot-counter (codes "slots") (string_bytes c.loop-slot.text) _ c.loop-slot.invariant w.if-mask-slot-eq1.true
      (ap string_bytes w.text-is ∙ w.in_ok-write.ensures.bytes)
  | else-mask-slot-eq1 w ↦
      ap string_bytes w.text-is
      ∙ slots_same c.args.mask c.loop-slot.slot-counter (codes "slots") (string_bytes c.loop-slot.text) c.loop-slot.invariant w.if-mask-slot-eq1.false
]
