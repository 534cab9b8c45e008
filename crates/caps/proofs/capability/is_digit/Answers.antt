use Rattle.std.proofs.Common.{◌∙◌}
use Rattle.caps.proofs.Digits.{is_ascii_hexdigit-is_hex_digit}
use Rattle.caps.proofs.capability.is_digit.Goals as goal

pub returns : goal.returns
returns c = c.is_ascii_hexdigit.ensures.value ∙ is_ascii_hexdigit-is_hex_digit c.args.c
