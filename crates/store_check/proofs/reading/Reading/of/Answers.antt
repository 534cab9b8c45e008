use Rattle.std.proofs.Common.{sym, subst}
use Rattle.store_check.specs.Since.{OnlyRead}
use Rattle.store_check.proofs.ReadOnly.{none_read}
use Rattle.store_check.proofs.reading.Reading.of.Goals as goal

pub invariant_of-result : goal.invariant_of-result
invariant_of-result g c =
    let b = g.B.Blocks in
    subst (λ d. OnlyRead b d c.args.store)
    (sym c.of-began.ensures)
    (none_read b c.args.store (g.met.B.Blocks.clock c.args.store))
