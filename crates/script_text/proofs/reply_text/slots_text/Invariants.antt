use Rattle.std.proofs.Common.{◌≡◌, ◌++◌, codes}
use Rattle.std.specs.String.{string_bytes}
use Rattle.std.specs.List.{flat_map, range_with_len}
use Rattle.script_text.specs.ReplyText.{slot_word}
use Rattle.script_text.proofs.reply_text.slots_text.Given as goal

abbrev pub invariant-loop-slot : goal.invariant-loop-slot
invariant-loop-slot l = string_bytes l.text ≡ codes "slots" ++ flat_map (slot_word l.mask) (range_with_len 0 l.slot-counter)
