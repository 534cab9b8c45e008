use Rattle.std.proofs.Common.{◌≡◌, drop}
use Rattle.page_codec.specs.Causes.{first_cause}
use Rattle.page_codec.proofs.decode.first_cause.Given as goal

abbrev pub invariant-loop-applies : goal.invariant-loop-applies
invariant-loop-applies l = first_cause (drop l.applies-index l.causes) ≡ first_cause l.causes
