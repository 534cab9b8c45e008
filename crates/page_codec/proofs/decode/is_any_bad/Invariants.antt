use Rattle.std.proofs.Common.{◌≡◌, map}
use Rattle.std.specs.List.{list_any}
use Rattle.page_codec.specs.Numbers.{pieces}
use Rattle.page_codec.specs.Reading.{member_value}
use Rattle.page_codec.specs.Causes.{is_bad_member}
use Rattle.page_codec.proofs.decode.is_any_bad.Given as goal

abbrev pub invariant-loop-i : goal.invariant-loop-i
invariant-loop-i l = l.bad ≡ list_any is_bad_member (map member_value (pieces 8 l.i l.bytes))
