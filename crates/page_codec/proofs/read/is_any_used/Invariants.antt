use Rattle.std.proofs.Common.{◌≡◌, take}
use Rattle.std.specs.List.{list_any}
use Rattle.page_codec.specs.Causes.{is_nonzero}
use Rattle.page_codec.proofs.read.is_any_used.Given as goal

abbrev pub invariant-loop-byte : goal.invariant-loop-byte
invariant-loop-byte l = l.used ≡ list_any is_nonzero (take l.byte-index l.bytes)
