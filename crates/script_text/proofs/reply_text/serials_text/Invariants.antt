use Rattle.std.proofs.Common.{◌≡◌, take}
use Rattle.std.specs.String.{string_bytes}
use Rattle.std.specs.List.{flat_map}
use Rattle.script_text.specs.ReplyText.{spaced}
use Rattle.script_text.proofs.reply_text.serials_text.Given as goal

abbrev pub invariant-loop-serial : goal.invariant-loop-serial
invariant-loop-serial l = string_bytes l.text ≡ flat_map spaced (take l.serial-index l.serials)
